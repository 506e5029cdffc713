-- What the list of the best holds, and what an offer does to it.
use Rattle.std.specs.Prelude.{◌≡◌, ◌⊎◌, cond, List, [], ◌∷◌, ℕ, ◌-◌, ◌≤◌, ◌<◌, length, take, get_or, map, replicate, ltb}
use Rattle.fleet.specs.Question.{Listed, listed_before}
use Rattle.best_list.specs.declared.Offer.{Offer}

-- the offers that are listed, the first of them first, what stands in the room behind them, and how many may be listed
pub record Best : Type 0 where
  pub offers : List Offer
  pub rest : List Offer
  pub k : ℕ

-- nothing is listed yet: all the room is left, for 32 offers
abbrev pub nothing_listed : ℕ → Best
nothing_listed k = record { offers = []; rest = replicate 32 (record { far = 0; van = 0 }); k = k }

-- a van with its distance, and the stamp that it has by `stampOf`
abbrev pub listed : (ℕ → ℕ) → ℕ → ℕ → Listed
listed stampOf far van = record { van = van; distance = far; stamp = stampOf van }

abbrev pub listing : (ℕ → ℕ) → Offer → Listed
listing stampOf o = listed stampOf o.far o.van

-- the offers as entries of a question's list
abbrev pub entries : (ℕ → ℕ) → Best → List Listed
entries stampOf best = map (listing stampOf) best.offers

-- the carried entry takes the place of each entry that it comes before, which is carried on
unfoldable pub pass : Listed → List Listed → List Listed
pass e [] = e ∷ []
pass e (x ∷ l) = let behind = x ∷ pass e l in let carried = e ∷ pass x l in cond (listed_before e x) carried behind

-- what is farther than this is not listed any more: the distance of the k-th entry, and one less than FAR while there are fewer
unfoldable pub limit_of : ℕ → List Listed → ℕ
limit_of k l = cond (ltb (length l) k) 4294967294 (get_or l (k - 1) (listed (λ v. 0) 0 0)).distance

-- an entry offered to a list of at most k
unfoldable pub offered : ℕ → Listed → List Listed → List Listed
offered k e l = cond (ltb (limit_of k l) e.distance) l (take k (pass e l))

-- entries offered one after the other
unfoldable pub offered_all : ℕ → List Listed → List Listed → List Listed
offered_all k l [] = l
offered_all k l (e ∷ es) = offered_all k (offered k e l) es

-- the second of two offers is not listed before the first
abbrev pub NoLater : (first second : Offer) → Type 0
NoLater first second = (first.far < second.far) ⊎ ((first.far ≡ second.far) × (first.van ≤ second.van))

-- the offer at a place, past the end one of nothing
abbrev pub offer_at : List Offer → ℕ → Offer
offer_at offers i = get_or offers i (record { far = 0; van = 0 })

-- offers are in order: none comes before an earlier one
pub record InOrder (offers : List Offer) : Type 0 where
  pub earlier : (i j : ℕ) → i < j → j < length offers → NoLater (offer_at offers i) (offer_at offers j)

-- an offer comes before none of the first n
pub record BeforeNone (offers : List Offer) (n : ℕ) (offer : Offer) : Type 0 where
  pub earlier : (i : ℕ) → i < n → NoLater (offer_at offers i) offer

-- what a list of at most k keeps, of whose 32 offers the first `len` are listed
pub record Standing (offers : List Offer) (len k : ℕ) : Type 0 where
  pub room : len ≤ k
  pub some : 1 ≤ k
  pub most : k ≤ 32
  pub all : length offers ≡ 32
  pub order : InOrder (take len offers)
