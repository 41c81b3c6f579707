use Rattle.std.proofs.Common.{refl}
use Rattle.tables.specs.Kinds.{uuid_bytes}
use Rattle.row_messages.specs.Kinds.{uuid_text}
use Rattle.row_messages.proofs.kinds.uuid_text.Goals as goal

pub returns : goal.returns
unfolding uuid_text uuid_bytes
returns c = rw (c.encode_lower.ensures.text, c.hyphenated.ensures, c.from_u128.ensures) refl
