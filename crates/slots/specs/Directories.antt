-- What a directory says: a place for each name, or none. Names are lists of bytes.
use Rattle.std.specs.Prelude.{◌≡◌, ℕ, List, cond, Option, Some, None}
use Rattle.std.specs.Str.{bytes_eq}
use Rattle.std.specs.BTreeMap.{btree_map_len, get_by_text}
use Rattle.slots.specs.declared.by_name.directory.Directory.{Directory}
use Rattle.slots.specs.declared.fault.SlotFault.{SlotFault}
use Rattle.slots.specs.declared.fault.SlotFault.TheVariants.{Exists, Memory}

-- the place of a name
abbrev pub place_of : Directory → List ℕ → Option ℕ
place_of d name = get_by_text d.places name

-- how many names there are
abbrev pub count_of : Directory → ℕ
count_of d = btree_map_len d.places

-- every name has the place that it had
abbrev pub AreSame : Directory → Directory → Type 0
AreSame old new = (name : List ℕ) → place_of new name ≡ place_of old name

-- this name has that place, and every other name the one that it had
abbrev pub ChangesOnly : Directory → Directory → List ℕ → Option ℕ → Type 0
ChangesOnly old new name place = (other : List ℕ) → place_of new other ≡ cond (bytes_eq name other) place (place_of old other)

-- why a name is not added: it has a place, and else memory was refused
abbrev pub adding_fault : Option ℕ → SlotFault
adding_fault None = Memory
adding_fault (Some place) = Exists
