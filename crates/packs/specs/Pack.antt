-- The first item of a pack: a length of 4 bytes, and so many bytes.
use Rattle.std.specs.Prelude.{List, ℕ, ◌+◌, ◌≤◌, length, take, drop}
use Rattle.maps.specs.Bytes.{field}

-- the pack holds the length and all bytes of the item
abbrev pub HoldsItem : List ℕ → Type 0
HoldsItem pack = 4 + field pack 0 4 ≤ length pack

-- its bytes
abbrev pub first_item : List ℕ → List ℕ
first_item pack = take (field pack 0 4) (drop 4 pack)

-- the bytes that come after it
abbrev pub after_item : List ℕ → List ℕ
after_item pack = drop (4 + field pack 0 4) pack
