use Rattle.std.proofs.Common.{◌++◌, length, take}
use Rattle.row_messages.proofs.RelationParts.{IsTold, columns_from}
use Rattle.row_messages.proofs.put_relation.put_columns.Given as goal

abbrev pub invariant-loop-i : goal.invariant-loop-i
invariant-loop-i l = IsTold l.identity l.listed l.columns l.i l.end l.out (take l.at l.initial.out ++ columns_from l.identity l.listed l.columns 0) (length l.initial.out)
