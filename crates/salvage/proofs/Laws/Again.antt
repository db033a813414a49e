-- What a reader of names finds in the salvaged sector: every kept name, and so every name that it found before. Salvaged again, it comes back as it is.
-- Assumes nothing.
use mathlib.Core.Path.{◌≡◌, refl, sym, ap, ◌∙◌}
use mathlib.Core.Bool.{true}
use mathlib.Core.List.{List, [], ◌∷◌, ◌++◌}
use Prim.Native.Nat.{ℕ, ◌+◌, ◌-◌}
use native.Mathlib.Omega.{arith}
use lib.ListN.{length, replicate}
use Rattle.names.specs.Records.{AllNames, names_of, Begins, record_bytes, records_bytes, padded}
use Rattle.names.proofs.Laws.Front.{front_nil, front_record, front_item}
use Rattle.names.proofs.Laws.Names.{names_none, names_item}
use Rattle.names.proofs.Laws.Padded.{records_below, names_erased_behind, padded_reads_back}
use Rattle.salvage.specs.Pieces.{Piece, kept, dropped, drop_byte, pieces_in, used_length, used_part, pieces_of, kept_names, kept_bytes, stretches_from, list_bytes, dropped_bytes}
use Rattle.salvage.proofs.Laws.Pieces.{pieces_nil, pieces_item, pieces_by}
use Rattle.salvage.proofs.Laws.Used.{used_part_length, used_split, used_part_all, used_part_erased}
use Rattle.salvage.proofs.Laws.Kept.{kept_good}

-- ---- a reader finds every kept name

pub salvaged_reads_back : (image : List ℕ) → names_of (padded (kept_bytes image)) ≡ kept_names (pieces_of image)
unfolding kept_bytes pieces_of
salvaged_reads_back image = padded_reads_back (kept_names (pieces_in (used_part image))) (kept_good (used_part image))

-- ---- those it found before come first

walk_begins : (bytes : List ℕ) → Begins (names_of bytes) (kept_names (pieces_in bytes))
unfolding kept_names
walk_begins =
    pieces_by (λ bytes pieces. Begins (names_of bytes) (kept_names pieces))
    record { more = []; all_are = sym (ap (λ (l : List (List ℕ)). l ++ []) (names_none [] front_nil)) }
    (λ x bytes nothing behind. rw (names_none (x ∷ bytes) nothing) record { more = _; all_are = refl })
    (λ bytes name rest is behind.
    rw (names_item bytes is) record { more = behind.more; all_are = ap (λ (l : List (List ℕ)). name ∷ l) behind.all_are })

begins_erased : (image used : List ℕ) (m : ℕ) → image ≡ used ++ replicate m 0xff → Begins (names_of image) (kept_names (pieces_in used))
begins_erased image used m e = rw (e, names_erased_behind used m) (walk_begins used)

-- "A damaged mark cost a player everything behind it": salvaging costs no name
pub names_survive : (image : List ℕ) → Begins (names_of image) (kept_names (pieces_of image))
unfolding pieces_of
names_survive image = begins_erased image (used_part image) (length image - used_length image) (used_split image)

-- ---- a sector of good records and FF

-- a record each
abbrev pub all_kept : List (List ℕ) → List Piece
all_kept [] = []
all_kept (name ∷ names) = kept name ∷ all_kept names

pieces_records : (names : List (List ℕ)) → AllNames names → pieces_in (records_bytes true names) ≡ all_kept names
unfolding records_bytes
pieces_records [] good = pieces_nil
pieces_records (name ∷ names) good =
    pieces_item (record_bytes true name ++ records_bytes true names) (front_record name (records_bytes true names) good.0)
    ∙ ap (λ (l : List Piece). kept name ∷ l) (pieces_records names good.1)

all_kept_names : (names : List (List ℕ)) → kept_names (all_kept names) ≡ names
unfolding kept_names
all_kept_names [] = refl
all_kept_names (name ∷ names) = ap (λ (l : List (List ℕ)). name ∷ l) (all_kept_names names)

all_kept_list : (at : ℕ) (names : List (List ℕ)) → list_bytes (stretches_from at (all_kept names)) ≡ []
unfolding stretches_from list_bytes
all_kept_list at [] = refl
all_kept_list at (name ∷ names) = all_kept_list (at + (3 + length name)) names

-- it comes back as it is, with nothing dropped
module _ (names : List (List ℕ)) (good : AllNames names) where
  abbrev clean : List ℕ
  clean = padded (records_bytes true names)

  -- no byte of a record is FF, so the records are what is used
  clean_walk : pieces_of clean ≡ all_kept names
  unfolding padded pieces_of
  clean_walk =
      let bytes : List ℕ = records_bytes true names in
      ap pieces_in (used_part_erased bytes (4096 - length bytes) ∙ used_part_all bytes (λ k e q. omega (arith, records_below names k good (omega arith), q)))
      ∙ pieces_records names good

  pub clean_kept : kept_bytes clean ≡ records_bytes true names
  unfolding kept_bytes
  clean_kept = rw (clean_walk, all_kept_names names) refl

  pub clean_dropped : dropped_bytes clean ≡ []
  unfolding dropped_bytes
  clean_dropped = rw clean_walk (all_kept_list 0 names)

-- a salvaged sector is such a one
module _ (image : List ℕ) where
  pub again_kept : kept_bytes (padded (kept_bytes image)) ≡ kept_bytes image
  unfolding kept_bytes pieces_of
  again_kept = clean_kept (kept_names (pieces_in (used_part image))) (kept_good (used_part image))

  pub again_dropped : dropped_bytes (padded (kept_bytes image)) ≡ []
  unfolding kept_bytes pieces_of
  again_dropped = clean_dropped (kept_names (pieces_in (used_part image))) (kept_good (used_part image))

-- ---- a sector of which nothing is dropped

-- no piece is a stretch
abbrev Unhurt : List Piece → Type 0
Unhurt [] = Unit {0}
Unhurt (kept name ∷ pieces) = Unhurt pieces
Unhurt (dropped n ∷ pieces) = ⊥

unhurt_list : (at : ℕ) (pieces : List Piece) → length (list_bytes (stretches_from at pieces)) ≡ 0 → Unhurt pieces
unfolding stretches_from list_bytes
unhurt_list at [] e = tt
unhurt_list at (kept name ∷ pieces) e = unhurt_list (at + (3 + length name)) pieces e
unhurt_list at (dropped n ∷ pieces) e = omega (arith, e)

unhurt_byte : (pieces : List Piece) → Unhurt (drop_byte pieces) → ⊥
unhurt_byte [] u = u
unhurt_byte (kept name ∷ pieces) u = u
unhurt_byte (dropped n ∷ pieces) u = u

unhurt_bytes : (bytes : List ℕ) → Unhurt (pieces_in bytes) → records_bytes true (kept_names (pieces_in bytes)) ≡ bytes
unfolding kept_names records_bytes
unhurt_bytes =
    pieces_by (λ bytes pieces. Unhurt pieces → records_bytes true (kept_names pieces) ≡ bytes) (λ u. refl)
    (λ x bytes nothing behind u. absurd (unhurt_byte (pieces_in bytes) u))
    (λ bytes name rest is behind u. ap (λ (l : List ℕ). record_bytes true name ++ l) (behind u) ∙ sym (front_item bytes is).is)

-- it comes back as it is
pub unhurt_same : (image : List ℕ) → length image ≡ 4096 → length (dropped_bytes image) ≡ 0 → padded (kept_bytes image) ≡ image
unfolding dropped_bytes kept_bytes pieces_of padded
unhurt_same image sized e =
    let used = unhurt_bytes (used_part image) (unhurt_list 0 (pieces_in (used_part image)) e) in
    let erased : 4096 - length (used_part image) ≡ length image - used_length image = omega (arith, used_part_length image, sized) in
    ap (λ (l : List ℕ). l ++ replicate (4096 - length l) 0xff) used
    ∙ ap (λ (n : ℕ). used_part image ++ replicate n 0xff) erased ∙ sym (used_split image)
