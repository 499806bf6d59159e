-- Sorted entries in buckets, and what is found among them.
use Rattle.std.specs.Prelude.{ℕ, ◌+◌, ◌*◌, ◌/◌, ◌-◌, ◌^◌, ◌<◌, ◌≤◌, ◌≡◌, Bool, true, false, List, length, slice_index_or, All, IsTrue, ◌⊎◌}
use Rattle.std.specs.List.{Contains}
use Rattle.std.specs.List.Sorted.{IsPermutation}
use Rattle.space3.specs.declared.boxes.BoundingBox.{BoundingBox}
use Rattle.box_grid.specs.declared.limits.TheConstants.{LEAST_SIDE, MOST_BUCKETS}
use Rattle.box_grid.specs.declared.entries.Entry.{Entry}
use Rattle.box_grid.specs.declared.search.Query.{Query}
use Rattle.box_grid.specs.declared.sizes.Level.{Level}
use Rattle.box_grid.specs.Near.{LiesInTheBox}
use Rattle.box_grid.specs.Calls.Cells.{entries_of_boxes, entry_item, entry_key, is_sought}

-- the bucket of a key, of so many
unfoldable pub bucket_of : ℕ → ℕ → ℕ
bucket_of count key = key * count / 4294967296

-- entries, and where in them each bucket begins
pub record Bucketed : Type 0 where
  pub entries : List Entry
  pub starts : List ℕ

-- a place before which the entries are of buckets before this one, and from which on they are of this or of later ones
pub record IsPartedAt (entries : List Entry) (count bucket start : ℕ) : Type 0 where
  pub within : start ≤ length entries
  pub before : (k : ℕ) (d : Entry) → k < start → bucket_of count (entry_key (slice_index_or entries k d)) < bucket
  pub after : (k : ℕ) (d : Entry) → start ≤ k → k < length entries →
      bucket ≤ bucket_of count (entry_key (slice_index_or entries k d))

-- the place of each bucket, and one more
pub record IsParted (entries : List Entry) (starts : List ℕ) : Type 0 where
  pub some : 1 < length starts
  pub few : length starts ≤ MOST_BUCKETS + 1
  pub each : (bucket d : ℕ) → bucket < length starts →
      IsPartedAt entries (length starts - 1) bucket (slice_index_or starts bucket d)

-- some of the entries, among which all with a key are
pub record IsPart (entries : List Entry) (key : ℕ) (part : List Entry) : Type 0 where
  pub has : (e : Entry) → Contains entries e → entry_key e ≡ key → Contains part e
  pub only : (e : Entry) → Contains part e → Contains entries e

-- the entries of a level's boxes by keys, in buckets
pub record IsLevel (level : Level) (boxes : List BoundingBox) (b : Bucketed) : Type 0 where
  pub coarse : LEAST_SIDE ≤ level.side
  pub entered : IsPermutation (entries_of_boxes level boxes) b.entries
  pub parted : IsParted b.entries b.starts

abbrev pub level_of : Bool → ℕ → ℕ → Level
level_of great common side = record { great = great; common = common; side = side }

-- boxes in the box of places; the great ones are entered in cells of their own side, the others in those of the first
pub record IsGrid (boxes : List BoundingBox) (side : ℕ) (small : Bucketed) (great_side : ℕ) (large : Bucketed) : Type 0 where
  pub few : length boxes < 2 ^ 32
  pub in_box : All LiesInTheBox boxes
  pub common : IsLevel (level_of false side side) boxes small
  pub great : IsLevel (level_of true side great_side) boxes large

-- the position of an entry that a query searches for
pub record IsSought (query : Query) (entries : List Entry) (x : ℕ) : Type 0 where
  pub of : Entry
  pub there : Contains entries of
  pub sought : IsTrue (is_sought query of)
  pub item : entry_item of ≡ x

-- Positions that were there, those of the entries with these keys that a query searches for, and perhaps of others of the
-- entries that it searches for.
pub record HasKeys (query : Query) (entries : List Entry) (keys old found : List ℕ) : Type 0 where
  pub kept : (x : ℕ) → Contains old x → Contains found x
  pub has : (e : Entry) → Contains entries e → Contains keys (entry_key e) → IsTrue (is_sought query e) →
      Contains found (entry_item e)
  pub only : (x : ℕ) → Contains found x → Contains old x ⊎ IsSought query entries x
