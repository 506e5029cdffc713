-- How many words of a memory are used, where it has an opened head.
use Rattle.std.specs.Prelude.{cond, List, ℕ, Result, Ok, Err}
use Rattle.answers.specs.declared.Refusal.{Refusal}
use Rattle.answers.specs.declared.Refusal.TheVariants.{NotOpened}
use Rattle.calls.specs.Head.{opened, used_of}

abbrev pub used_words : List ℕ → Result ℕ Refusal
used_words mem = cond (opened mem) (Ok (used_of mem)) (Err NotOpened)
