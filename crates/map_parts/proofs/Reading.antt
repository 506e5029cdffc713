-- What the bytes show, where the counts are known.
-- Assumes nothing.
use mathlib.Core.Path.{◌≡◌, refl, sym, ap, ◌∙◌}
use mathlib.Core.List.{List}
use Prim.Native.Nat.{ℕ}
use lib.ListN.{drop}
use Rattle.words.specs.Limits.{NONE}
use Rattle.maps.specs.Bytes.{Counts, number_at, roads_of, decode}
use Rattle.maps.proofs.Judged.{numbers_length, number_is}
use Rattle.map_bytes.specs.Copied.{Copied}
use Rattle.map_parts.specs.Bodies.{parents_body, leaves_body, roads_body}
use Rattle.map_parts.specs.Part.{ShowsPartsOf}

pub shows_by : (bytes : List ℕ) (c : Counts) {first second old parents old' leaves : List ℕ} → first ≡ drop parents_body bytes → Copied first c.parts old parents
    → second ≡ drop (leaves_body c) bytes → Copied second c.vertices old' leaves → ShowsPartsOf (decode bytes c) parents leaves c.vertices c.parts
unfolding decode
shows_by bytes c isFirst parents isSecond leaves =
    record {
      count = numbers_length c.parts (drop parents_body bytes);
      parent = λ p h. number_is c.parts (drop parents_body bytes) p NONE h ∙ ap (λ (body : List ℕ). number_at body p) (sym isFirst) ∙ sym (parents.each p h);
      vertex_count = refl;
      leaf = λ v h. number_is c.vertices (drop (leaves_body c) bytes) v NONE h ∙ ap (λ (body : List ℕ). number_at body v) (sym isSecond) ∙ sym (leaves.each v h);
    }

pub roads_by : (bytes : List ℕ) (c : Counts) {body : List ℕ} → body ≡ drop (roads_body c) bytes → (decode bytes c).roads ≡ roads_of c.roads body
unfolding decode
roads_by bytes c is = ap (roads_of c.roads) (sym is)
