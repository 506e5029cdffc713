-- One road more, in front of those after it.
-- Assumes nothing.
use mathlib.Core.Path.{◌≡◌, refl, ap, ap₂, sym, subst, ◌∙◌}
use mathlib.Core.Bool.{Bool, cond}
use mathlib.Core.List.{List, ◌∷◌}
use Prim.Native.Nat.{ℕ, suc, ◌+◌, ◌*◌, ◌≤◌, ◌<◌}
use native.Mathlib.Decide.{ℕ_discrete}
use native.Mathlib.Omega.{arith}
use lib.ListN.{length, drop, set, length-set, drop_of_length-le}
use lib.Seq.{sets, drop-cons, get_or-set_same, get_or-set_other}
use borrow.Author.Tests.{eq-eqb, ne_eqb}
use Rattle.words.specs.Lists.{word, link}
use Rattle.layout.specs.Layout.{words_in_road}
use Rattle.roads.specs.Map.{Road, Map, road_count, road_at, no_road}
use Rattle.image.specs.Places.{roads_at}
use Rattle.image.specs.Image.{ends_at}
use Rattle.image.specs.Records.{road_record}
use Rattle.maps.specs.Bytes.{road_shown}
use Rattle.records.specs.Written.{Written}
use Rattle.records.proofs.Written.{written_none, written_down}
use Rattle.opening_roads.specs.Roads.{road_words, RoadsReady, RoadsStand}

module _ (m : Map) (body : List ℕ) (roads base : ℕ) (ins₀ mem₀ : List ℕ) (ready : RoadsReady m body roads base ins₀ mem₀) where
  pub roads_none : RoadsStand m roads mem₀ ins₀ mem₀
  roads_none =
      record {
        records = subst (λ (k : ℕ). Written (roads_at m) words_in_road roads k (road_record m) mem₀ mem₀) ready.count (written_none (roads_at m) words_in_road (road_record m) roads mem₀);
        links = λ v h. ready.none v h ∙ ap (link (ends_at v) roads) (sym (drop_of_length-le m.roads (let all : road_count m ≤ roads = omega (arith, ready.count) in all)));
      }

  module _ (i next : ℕ) (ins ins' mem mem' : List ℕ) (more : next ≡ i + 1) (some : i < roads) (long : length ins ≡ length ins₀) (old : RoadsStand m next mem₀ ins mem)
      (stored : mem' ≡ sets mem (base + words_in_road * i) (road_words (road_shown body i) (word ins (road_shown body i).to))) (pushed : ins' ≡ set ins (road_shown body i).to (i + 1)) where
    here : i < road_count m
    here = omega (arith, ready.count)

    abbrev r : Road
    r = road_at m i

    is_road_lem : road_shown body i ≡ r
    is_road_lem = ready.shown i here

    end_room : r.to < length ins
    end_room = omega (arith, ready.ends i here)

    same_record : road_words (road_shown body i) (word ins (road_shown body i).to) ≡ road_record m i
    unfolding road_record
    same_record =
        ap (λ (x : Road). road_words x (word ins x.to)) is_road_lem
        ∙ ap (road_words r) (old.links r.to end_room ∙ ap (λ (k : ℕ). link (ends_at r.to) k (drop k m.roads)) (let one : next ≡ suc i = omega arith in one))

    sized : length (road_record m i) ≡ words_in_road
    unfolding road_record
    sized = refl

    links_now : (v : ℕ) → v < length ins' → word ins' v ≡ link (ends_at v) i (drop i m.roads)
    links_now v h = by (ℕ_discrete v r.to)
      where
        pushed_here : ins' ≡ set ins r.to (i + 1)
        pushed_here = pushed ∙ ap (λ (x : Road). set ins x.to (i + 1)) is_road_lem

        in_room : v < length ins
        in_room = omega (arith, ap length pushed_here, length-set ins r.to (i + 1))

        ahead : drop i m.roads ≡ r ∷ drop (suc i) m.roads
        ahead = drop-cons m.roads i no_road here

        by : Dec (v ≡ r.to) → word ins' v ≡ link (ends_at v) i (drop i m.roads)
        by (yes same) =
            ap (λ (l : List ℕ). word l v) pushed_here
            ∙ ap (word (set ins r.to (i + 1))) same
            ∙ get_or-set_same ins r.to (i + 1) 0 end_room
            ∙ sym (ap (link (ends_at v) i) ahead ∙ ap (λ (b : Bool). cond b (suc i) (link (ends_at v) (suc i) (drop (suc i) m.roads))) (eq-eqb r.to v (sym same)) ∙ (let one : suc i ≡ i + 1 = omega arith in one))
        by (no other) =
            ap (λ (l : List ℕ). word l v) pushed_here
            ∙ get_or-set_other ins r.to v (i + 1) 0 other
            ∙ old.links v in_room
            ∙ ap (λ (k : ℕ). link (ends_at v) k (drop k m.roads)) (let one : next ≡ suc i = omega arith in one)
            ∙ sym (ap (link (ends_at v) i) ahead ∙ ap (λ (b : Bool). cond b (suc i) (link (ends_at v) (suc i) (drop (suc i) m.roads))) (ne_eqb r.to v (λ e. other (sym e))))

    pub roads_more : RoadsStand m i mem₀ ins' mem'
    roads_more =
        record {
          records =
              written_down (roads_at m) words_in_road (road_record m) i next (road_count m) mem₀ mem mem' more here sized (omega (arith, ready.room, old.records.long)) old.records
              (stored ∙ ap₂ (λ (k : ℕ) (l : List ℕ). sets mem (k + words_in_road * i) l) ready.start same_record);
          links = links_now;
        }
