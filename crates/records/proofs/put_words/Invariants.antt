use Rattle.std.proofs.Common.{◌≡◌, ◌+◌, length, drop}
use Rattle.std.proofs.lemmas.List.Edits.{sets}
use Rattle.records.proofs.put_words.Given as goal

abbrev pub invariant-loop-i : goal.invariant-loop-i
invariant-loop-i g l = (length l.word-items ≡ g.row.N) × (sets l.mem (l.at + l.i) (drop l.i l.word-items) ≡ sets l.initial.mem l.at l.word-items)
