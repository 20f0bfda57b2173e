use Rattle.std.proofs.Common.{string_bytes}
use Rattle.printing.proofs.Writing.{WrittenTo}
use Rattle.printing.proofs.rows.write_acts.Given as goal

abbrev pub invariant-loop-act : goal.invariant-loop-act
invariant-loop-act g l = WrittenTo g.T.CardKind.text g.T.Kind.ops.bottom l.acts (string_bytes l.initial.out) (string_bytes l.out) l.act-index
