-- What the bytes show, where the counts are known.
-- Assumes nothing.
use mathlib.Core.Path.{◌≡◌, sym, ap, subst, ◌∙◌}
use mathlib.Core.Bool.{true}
use mathlib.Core.List.{List}
use Prim.Native.Nat.{ℕ, ◌≤◌}
use lib.Dec.{leb}
use borrow.Author.Tests.{leb-true}
use Rattle.words.specs.Limits.{most_vertices, most_roads, most_parts}
use Rattle.words.specs.Tests.{within}
use Rattle.words.proofs.Tests.{both_true, within_true}
use Rattle.roads.specs.Map.{Map}
use Rattle.maps.specs.Bytes.{counts_of, roads_of, decode}
use Rattle.maps.specs.Rules.{counts_fit}
use Rattle.maps.specs.Judge.{sound, judge}
use Rattle.maps.proofs.Judged.{judged_shown}
use Rattle.map_parts.specs.Part.{ShowsPartsOf}
use Rattle.map_borders.specs.Sizes.{Given}
use Rattle.map_parts.specs.Bodies.{the_counts, Limited}

pub limited : (v r p : ℕ) → counts_fit v r p ≡ true → Limited (the_counts v r p)
limited v r p fit =
    let upToParts = both_true _ (within 1 most_parts p) fit in
    let upToRoads = both_true (within 1 most_vertices v) (leb r most_roads) upToParts.0 in
    record {
      vertices = (within_true 1 most_vertices v upToRoads.0).1;
      roads = leb-true r most_roads upToRoads.1;
      some = (within_true 1 most_parts p upToParts.1).0;
      parts = (within_true 1 most_parts p upToParts.1).1;
    }

-- a sound map is what the bytes show by the counts of record 1
pub given_by : (bytes : List ℕ) (m : Map) (v r p : ℕ) {parents leaves body : List ℕ} → judge bytes ≡ sound m → the_counts v r p ≡ counts_of bytes → v ≤ most_vertices → p ≤ most_parts
    → ShowsPartsOf (decode bytes (the_counts v r p)) parents leaves v p → (decode bytes (the_counts v r p)).roads ≡ roads_of r body → Given m parents leaves body v r p
given_by bytes m v r p {parents} {leaves} judged is few_vertices few_parts shows roads =
    let shown = judged_shown bytes m judged in
    let same : decode bytes (the_counts v r p) ≡ m = ap (decode bytes) is ∙ shown.map in
    record {
      shows = subst (λ (k : Map). ShowsPartsOf k parents leaves v p) same shows;
      road_list = sym (ap (λ (k : Map). k.roads) same) ∙ roads;
      few_vertices = few_vertices;
      few_parts = few_parts;
      good_parts = shown.passes.parts;
      good_roads = shown.passes.roads;
    }
