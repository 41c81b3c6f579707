-- Each name's place stays one of the table's.
use Rattle.std.proofs.Common.{◌≡◌, ℕ, ◌<◌, Bool, true, false, cond, List, Option, Some, None, refl, sym, ◌∙◌, arith, true≢false}
use Rattle.std.specs.Str.{bytes_eq}
use Rattle.std.specs.Option.{is_some}
use Rattle.slots.specs.Directories.{AreSame, ChangesOnly, adding_fault, place_of}
use Rattle.slots.specs.declared.by_name.directory.Directory.{Directory}
use Rattle.slots.specs.declared.fault.SlotFault.{SlotFault}
use Rattle.slots.specs.declared.words_kept.step.SeatView.{SeatView}
use Rattle.slots.specs.declared.table.TheConstants.{END_OF_PLACES}
use Rattle.connections.specs.Names.{AreInTable, IsMadeAndDropped, IsNoNewSlot}

pub none_in_table : (names : Directory) → ((name : List ℕ) → place_of names name ≡ None) → AreInTable names
none_in_table names empty name place is = let e : None ≡ Some place = sym (empty name) ∙ is in cc

pub same_in_table : (old new : Directory) → AreSame old new → AreInTable old → AreInTable new
same_in_table old new same inside name place is = inside name place (sym (same name) ∙ is)

chosen : (is : Bool) (at : Option ℕ) (was : Option ℕ) → ((x : ℕ) → at ≡ Some x → x < END_OF_PLACES) → ((x : ℕ) → was ≡ Some x → x < END_OF_PLACES) → (x : ℕ) → cond is at was ≡ Some x → x < END_OF_PLACES
chosen true at was new old x e = new x e
chosen false at was new old x e = old x e

some_below : (place : ℕ) → place < END_OF_PLACES → (x : ℕ) → Some place ≡ Some x → x < END_OF_PLACES
some_below place below x e = grind arith

none_below : (x : ℕ) → None ≡ Some x → x < END_OF_PLACES
none_below x e = cc

pub added_in_table : (old new : Directory) (name : List ℕ) (place : ℕ) → ChangesOnly old new name (Some place) → place < END_OF_PLACES → AreInTable old → AreInTable new
added_in_table old new name place changes below inside other x is =
    chosen (bytes_eq name other) (Some place) (place_of old other) (some_below place below) (inside other) x (sym (changes other) ∙ is)

pub removed_in_table : (old new : Directory) (name : List ℕ) → ChangesOnly old new name None → AreInTable old → AreInTable new
removed_in_table old new name changes inside other x is =
    chosen (bytes_eq name other) None (place_of old other) none_below (inside other) x (sym (changes other) ∙ is)

-- a name that was free is refused for memory alone
free_refused : (place : Option ℕ) (position : ℕ) (old new : SeatView) → IsMadeAndDropped position old new → is_some place ≡ false → IsNoNewSlot (adding_fault place) place position old new
free_refused None position old new made free = (refl, made)
free_refused (Some place) position old new made free = let e : true ≡ false = free in absurd (true≢false e)

pub refused : (names : Directory) (name : List ℕ) (position : ℕ) (old new : SeatView) → IsMadeAndDropped position old new → (found : Option ℕ) → found ≡ place_of names name → (there : Bool) → there ≡ is_some found → there ≡ false → (fault : SlotFault)
    → fault ≡ adding_fault (place_of names name) → IsNoNewSlot fault (place_of names name) position old new
refused names name position old new made found is there some free fault faults =
    let none : is_some (place_of names name) ≡ false = grind (arith) in
    rw faults (free_refused (place_of names name) position old new made none)
