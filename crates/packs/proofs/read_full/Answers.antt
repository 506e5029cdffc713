-- A read that put n bytes after what was filled: what is filled then is what was filled and those n bytes, and so are the bytes that were consumed.
use Rattle.std.proofs.Common.{◌≡◌, ℕ, ◌+◌, ◌-◌, ◌≤◌, List, ◌++◌, rules, length, take, sym, ap, ◌∙◌, subst}
use Rattle.std.proofs.Math.Seq.{take-append-add}
use Rattle.std.proofs.lemmas.List.{take-append-le}
use Rattle.std.proofs.KnownBytes.{Consumes-trans}
use Rattle.std.specs.Io.KnownBytes.{Consumes}
use borrow.Rule.Slice.PartMut.{put_mid, post_of}
use Rattle.packs.proofs.read_full.Goals as goal

filled_on : (a k n : ℕ) (xs ys : List ℕ) → length (take a xs) ≡ a → n ≤ length ys → take a xs ++ take n ys ≡ take (a + n) (put_mid a k xs ys)
filled_on a k n xs ys long fits =
    let after = post_of a k xs in
    sym (ap (λ m. take (m + n) (put_mid a k xs ys)) (sym long) ∙ take-append-add (take a xs) (ys ++ after) n ∙ ap (λ l. take a xs ++ l) (take-append-le n ys after fits))

pub loop-done-preserved : goal.loop-done-preserved
loop-done-preserved g c =
    let filled = filled_on c.loop-done.done (length c.loop-done.bytes - c.loop-done.done) c.in_ok-n.n c.loop-done.bytes c.read.new.buf (search rules) c.in_ok-n.ensures.bound.0 in
    (search rules, search rules, subst (Consumes _ _) filled (Consumes-trans _ _ _ _ _ c.loop-done.invariant.2 c.in_ok-n.ensures.bytes.0))
