-- What the code reads in the words of a map and a fleet: the change count, the weights of roads, the vans and their lists.
-- Assumes nothing.
use mathlib.Core.Path.{◌≡◌, refl, sym, ap, ◌∙◌}
use mathlib.Core.List.{List}
use Prim.Native.Nat.{ℕ, ◌+◌, ◌*◌, ◌≤◌, ◌<◌}
use native.Mathlib.Nat.{add-zero}
use native.Mathlib.Omega.{arith}
use lib.ListN.{length}
use lib.Seq.{ext_get_or}
use Rattle.words.specs.Limits.{vans}
use Rattle.words.specs.Lists.{word}
use Rattle.cells.specs.Part.{part}
use Rattle.cells.proofs.Part.{part_length, part_at}
use Rattle.layout.specs.Layout.{words_in_van, road_in_van, offset_in_van, stamp_in_van}
use Rattle.roads.specs.Map.{Map, road_count, road_at}
use Rattle.parts.specs.Size.{need}
use Rattle.places.specs.Place.{van_address}
use Rattle.fleet.specs.State.{Slot, absent, present, State, slot_of}
use Rattle.image.specs.Places.{vans_at, tables_at}
use Rattle.image.specs.Image.{head_part, vertex_record, image}
use Rattle.image.specs.Records.{road_record}
use Rattle.image.proofs.Length.{image_length}
use Rattle.image.proofs.Records.{roads_start, vans_start, tables_start, rows_start, rows_end, head_word, vertex_word, road_word, van_word}
use Rattle.van_lists.specs.declared.VanWords.{VanWords}
use Rattle.van_lists.specs.Slot.{standing_words}
use Rattle.van_lists.specs.Walk.{van_in}
use Rattle.van_lists.proofs.Links.{link_from, slot_words, van_record_lem}
use Rattle.van_lists.proofs.Parked.{Parked, field}
use Rattle.road_lookup.proofs.Shown.{counts_of, vertex_place, road_place}
use Rattle.refusals.specs.Verdict.{weight_in}

slot_length : (m : Map) (s : State) (n : ℕ) (slot : Slot) → length (slot_words m s n slot) ≡ 8
slot_length m s n absent = refl
slot_length m s n (present v) = refl

-- where records stand, by the counts and by the map
module _ (m : Map) where
  pub van_place : (x w : ℕ) → van_address (counts_of m) x + w ≡ vans_at m + words_in_van * x + w
  van_place x w = omega (arith, roads_start m, vans_start m)

  -- the vans end before the tables
  pub vans_end : van_address (counts_of m) vans ≡ tables_at m
  vans_end = omega (arith, roads_start m, vans_start m, tables_start m)

  pub tables_within : tables_at m ≤ need m
  tables_within = omega (arith, rows_start m, rows_end m)

module _ (m : Map) (s : State) (slots : length s.vans ≡ vans) where
  pub count_read : word (image m s) 5 ≡ s.count
  unfolding head_part
  count_read = head_word m s slots 5 (omega arith)

  van_at : (x : ℕ) → x < vans → part (image m s) (van_address (counts_of m) x) words_in_van ≡ slot_words m s x (slot_of s x)
  van_at x h =
      ext_get_or 0 _ _ (long ∙ sym (slot_length m s x (slot_of s x)))
      (λ w inside.
      let small : w < 8 = omega (arith, long) in
      part_at (image m s) (van_address (counts_of m) x) words_in_van w small
      ∙ ap (word (image m s)) (van_place m x w)
      ∙ van_word m s slots x w h small
      ∙ ap (λ (l : List ℕ). word l w) (van_record_lem m s x))
    where
      long : length (part (image m s) (van_address (counts_of m) x) 8) ≡ 8
      long = part_length (image m s) (van_address (counts_of m) x) words_in_van (omega (arith, image_length m s slots, vans_end m, tables_within m))

  pub image_parked : Parked m (counts_of m) s (image m s)
  unfolding vertex_record link_from
  image_parked =
      record {
        size = omega (arith, image_length m s slots, vans_end m, tables_within m);
        first = λ v h. ap (word (image m s)) (vertex_place m v 4) ∙ vertex_word m s slots v 4 h (omega arith);
        van = van_at;
      }

  pub image_weights : (i : ℕ) → i < road_count m → weight_in (image m s) (counts_of m) i ≡ (road_at m i).weight
  unfolding road_record
  image_weights i h = ap (word (image m s)) (road_place m i 2) ∙ road_word m s slots i 2 h (omega arith)

  pub van_read : (x : ℕ) → x < vans → van_in (image m s) (counts_of m) x ≡ standing_words (slot_of s x)
  van_read x h = words (slot_of s x) (λ w small. field (image m s) (van_address (counts_of m) x) words_in_van _ w small (van_at x h))
    where
      words : (slot : Slot) → ((w : ℕ) → w < 8 → word (image m s) (van_address (counts_of m) x + w) ≡ word (slot_words m s x slot) w) → van_in (image m s) (counts_of m) x ≡ standing_words slot
      words slot at = by slot (ap (word (image m s)) (sym (add-zero (van_address (counts_of m) x))) ∙ at 0 (omega arith)) (at 1 (omega arith)) (at 2 (omega arith)) (at 3 (omega arith))
        where
          same : {a b c d e f g h : ℕ} → a ≡ b → c ≡ d → e ≡ f → g ≡ h
              → ◌≡◌ {A = VanWords} (record { state = a; road = c; offset = e; stamp = g }) (record { state = b; road = d; offset = f; stamp = h })
          same p q r t i = record { state = p i; road = q i; offset = r i; stamp = t i }

          by : (slot : Slot) → word (image m s) (van_address (counts_of m) x) ≡ word (slot_words m s x slot) 0 → word (image m s) (van_address (counts_of m) x + road_in_van) ≡ word (slot_words m s x slot) 1
              → word (image m s) (van_address (counts_of m) x + offset_in_van) ≡ word (slot_words m s x slot) 2 → word (image m s) (van_address (counts_of m) x + stamp_in_van) ≡ word (slot_words m s x slot) 3
              → van_in (image m s) (counts_of m) x ≡ standing_words slot
          by absent p q r t = same p q r t
          by (present v) p q r t = same p q r t
