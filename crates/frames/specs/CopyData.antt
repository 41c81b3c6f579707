-- CopyData (PostgreSQL 15, 55.7): the body is the bytes of the stream, any number of them.
use Rattle.std.specs.Prelude.{ℕ, List, [], Result, Ok}
use Rattle.frames.specs.declared.copy_data.CopyData.{CopyData}

abbrev pub copy_data : CopyData → List ℕ
copy_data m = m.bytes

abbrev pub copy_data_at : List ℕ → Result (CopyData × List ℕ) (Unit {0})
copy_data_at body = Ok (record { bytes = body }, [])
