-- Records appended, and wanted once more behind a cut or an end of either plan: which of the two plans it is then, and that no bit has to rise.
-- Assumes nothing.
use mathlib.Core.Path.{◌≡◌, sym, ap, ◌∙◌}
use mathlib.Core.Bool.{Bool, true, false}
use mathlib.Core.List.{List}
use mathlib.Core.Logic.{◌⊎◌, inl, inr, ⊎_elim}
use Prim.Native.Nat.{ℕ, ◌+◌, ◌-◌, ◌≤◌, ◌<◌}
use native.Mathlib.Omega.{arith}
use native.Mathlib.Decide.{ℕ_discrete}
use lib.ListN.{length, get_or, drop, length-drop}
use lib.Seq.{get_or-drop}
use Rattle.common.specs.Bits.{Bytes, bit_at}
use Rattle.common.proofs.Laws.Bits.{bit_above}
use Rattle.common.proofs.Laws.Choice.{cases}
use Rattle.common.proofs.Laws.Lists.{split}
use Rattle.names.specs.Records.{AllNames, records_bytes}
use Rattle.names.proofs.Laws.Walk.{records_long, records_agree}
use Rattle.sectors.specs.Images.{first_image, second_image, is_missing, wanted_names}
use Rattle.sectors.proofs.Laws.Images.{Stands, stands_exactly, wanted_first, wanted_second}
use Rattle.flags.proofs.Laws.Answers.{names_want_long}
use Rattle.namecut.proofs.Laws.Between.{Between, erased_bit, erased_after, still_falls}
use Rattle.namecut.proofs.Laws.Grown.{image_there, image_new, image_behind, image_bytes, records_bytes_lem, Appending, stands_after}

-- ---- the two images

module _ (old new : List (List ℕ)) (good_old : AllNames old) (good_new : AllNames new)
    (room : length (records_bytes true old) + length (records_bytes true new) ≤ 4096) where
  abbrev there : List ℕ
  there = records_bytes true old

  abbrev n : ℕ
  n = length there

  room_false : n + length (records_bytes false new) ≤ 4096
  room_false = omega (arith, room, records_long true false new)

  pub first_bytes : Bytes (first_image there new)
  first_bytes = image_bytes there (records_bytes false new) room_false (records_bytes_lem true old good_old) (records_bytes_lem false new good_new)

  pub second_bytes : Bytes (second_image there new)
  second_bytes = image_bytes there (records_bytes true new) room (records_bytes_lem true old good_old) (records_bytes_lem true new good_new)

  -- they differ where the first has FF
  second_or_erased : (k : ℕ) → k < 4096 → (get_or (second_image there new) k 0 ≡ get_or (first_image there new) k 0) ⊎ (get_or (first_image there new) k 0 ≡ 0xff)
  second_or_erased k h =
      ⊎_elim (λ l. inl (image_there there (records_bytes true new) room k l ∙ sym (image_there there (records_bytes false new) room_false k l)))
      (λ g. ⊎_elim (λ l. at_new (k - n) (omega arith) l) (λ l. inr (image_behind there (records_bytes false new) room_false k (omega arith) h))
      (split (k - n) (length (records_bytes false new)))) (split k n)
    where
      at_new : (j : ℕ) → n + j ≡ k → j < length (records_bytes false new)
          → (get_or (second_image there new) k 0 ≡ get_or (first_image there new) k 0) ⊎ (get_or (first_image there new) k 0 ≡ 0xff)
      at_new j e l =
          let first = rw e at (image_new there (records_bytes false new) room_false j l) in
          let second = rw e at (image_new there (records_bytes true new) room j (omega (arith, l, records_long true false new))) in
          elim (ℕ_discrete (get_or (records_bytes false new) j 0) 0xff) [
            | yes z ↦ inr (first ∙ z)
            | no used ↦ inl (second ∙ records_agree new j used ∙ sym first)
          ]

  -- lengths and names stand in either
  pub first_stands : Stands (records_bytes false new) (drop n (first_image there new))
  first_stands k h used = get_or-drop n (first_image there new) k 0 ∙ image_new there (records_bytes false new) room_false k h

  pub second_stands : Stands (records_bytes false new) (drop n (second_image there new))
  second_stands k h used =
      get_or-drop n (second_image there new) k 0 ∙ image_new there (records_bytes true new) room k (omega (arith, h, records_long true false new)) ∙ records_agree new k used

  -- so of a sector that is one of them nothing is missing
  pub not_missing : (image : List ℕ) → length image ≡ 4096 → Stands (records_bytes false new) (drop n image) → is_missing (records_bytes false new) (drop n image) ≡ false
  not_missing image long stands = (stands_exactly (records_bytes false new) (drop n image) (omega (arith, room_false, length-drop n image, long))).only_when stands

-- ---- wanted at all

module _ (image : List ℕ) (old new : List (List ℕ)) (a : Appending image old new) where
  abbrev wanted : List ℕ
  wanted = wanted_names image (records_bytes true old) new

  abbrev lacking : Bool
  lacking = is_missing (records_bytes false new) (drop (length (records_bytes true old)) image)

  pub wanted_long : length wanted ≡ 4096
  wanted_long = names_want_long image (records_bytes true old) new a.room

  pub wanted_bytes : Bytes wanted
  wanted_bytes =
      cases lacking (λ t. rw (wanted_first image (records_bytes true old) new t) (first_bytes old new a.good_old a.good_new a.room))
      (λ f. rw (wanted_second image (records_bytes true old) new f) (second_bytes old new a.good_old a.good_new a.room))

  -- nothing is missing of what was wanted
  pub wanted_whole : is_missing (records_bytes false new) (drop (length (records_bytes true old)) wanted) ≡ false
  wanted_whole =
      not_missing old new a.good_old a.good_new a.room wanted wanted_long
      (cases lacking (λ t. rw (wanted_first image (records_bytes true old) new t) (first_stands old new a.good_old a.good_new a.room))
      (λ f. rw (wanted_second image (records_bytes true old) new f) (second_stands old new a.good_old a.good_new a.room)))

-- ---- wanted again

module _ (before after : List ℕ) (old new : List (List ℕ)) (a : Appending before old new) (long_after : length after ≡ 4096)
    (m : Between before (wanted_names before (records_bytes true old) new) after) where
  abbrev front : List ℕ
  front = records_bytes true old

  -- behind the second plan it is the second again
  pub second_again : is_missing (records_bytes false new) (drop (length front) before) ≡ false → is_missing (records_bytes false new) (drop (length front) after) ≡ false
  second_again whole =
      not_missing old new a.good_old a.good_new a.room after long_after
      (stands_after before after old new a long_after whole (rw (wanted_second before front new whole) at m))

  pub again_falls : (k b : ℕ) → k < 4096 → bit_at (get_or (wanted_names after front new) k 0) b ≡ 1 → bit_at (get_or after k 0) b ≡ 0 → ⊥
  again_falls k b h one none =
      cases (is_missing (records_bytes false new) (drop (length front) before))
      (λ t. let f = rw (wanted_first before front new t) at m in
      cases (is_missing (records_bytes false new) (drop (length front) after))
      (λ u. still_falls f k h b (rw (wanted_first after front new u) at one) none)
      (λ u. let one_second = rw (wanted_second after front new u) at one in
      ⊎_elim (λ same. still_falls f k h b (ap (λ (x : ℕ). bit_at x b) (sym same) ∙ one_second) none)
      (λ erased. past_byte b one_second (ap (λ (x : ℕ). bit_at x b) (sym (erased_after f k h erased)) ∙ none))
      (second_or_erased old new a.good_old a.good_new a.room k h)))
      (λ w. still_falls (rw (wanted_second before front new w) at m) k h b (rw (wanted_second after front new (second_again w)) at one) none)
    where
      past_byte : (b : ℕ) → bit_at (get_or (second_image front new) k 0) b ≡ 1 → bit_at 0xff b ≡ 0 → ⊥
      past_byte b one none =
          ⊎_elim (λ l. omega (arith, erased_bit b l, none))
          (λ l. omega (arith, one, bit_above 8 (get_or (second_image front new) k 0) b (second_bytes old new a.good_old a.good_new a.room k) l)) (split b 8)
