-- `search_with` searches with room of its own.
-- Assumes nothing.
use mathlib.Core.Path.{refl, ap, subst⁻¹}
use native.Mathlib.Omega.{arith}
use lib.ListN.{replicate, length-replicate, get_or-replicate}
use Prim.Native.Nat.{ℕ, ◌+◌, ◌≤◌}
use Rattle.words.specs.Limits.{FAR}
use Rattle.best_list.specs.Best.{Best}
use Rattle.part_keys.specs.Keys.{far_count}
use Rattle.part_keys.proofs.Spreading.{far_most}
use Rattle.question.proofs.search_with.Goals as goal

pub invariant_of-search : goal.invariant_of-search
invariant_of-search c =
    let room : far_count (replicate 512 FAR) + 0 ≤ 512 = omega (arith, far_most (replicate 512 FAR), length-replicate {A = ℕ} 512 FAR) in
    record { room = room }

pub search_at-requires : goal.search_at-requires
search_at-requires c = record {
  some = subst⁻¹ (λ (b : Best). 1 ≤ b.k) c.new.ensures c.requires.0;
  no_distance = c.requires.2;
  keys_length = length-replicate {A = ℕ} 512 FAR;
  no_key = λ q h. get_or-replicate 512 q FAR 0 h;
  waits_length = length-replicate {A = ℕ} 512 FAR;
  none_waits = refl;
  none_listed = ap (λ (b : Best). b.offers) c.new.ensures;
}
