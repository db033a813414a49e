-- The sector that a move wants, as the code lays it: the records without their marks, and over them, where none of their bytes is missing, with them.
-- Assumes nothing.
use mathlib.Core.Path.{◌≡◌, refl, sym, ap, ◌∙◌}
use mathlib.Core.Bool.{Bool, true, false, true≢false}
use mathlib.Core.List.{List, []}
use mathlib.Core.Logic.{⊎_elim}
use Prim.Native.Nat.{ℕ, ◌-◌, ◌≤◌, ◌<◌}
use native.Mathlib.Omega.{arith}
use lib.ListN.{length, take}
use borrow.Author.Tests.{lt-ltb, le-ltb}
use Rattle.std.proofs.Common.{Option, Some, None, Ok, Err}
use Rattle.common.specs.Buffer.{Put}
use Rattle.common.specs.declared.refusals.Refusal.TheVariants.{RecordsTooLong}
use Rattle.common.proofs.Laws.Lists.{split}
use Rattle.names.specs.Records.{records_bytes, padded}
use Rattle.names.proofs.Laws.Walk.{records_long}
use Rattle.namelist.specs.Listed.{listed, names_in}
use Rattle.book.specs.Book.{is_read}
use Rattle.sectors.specs.Images.{is_missing}
use Rattle.sectors.specs.Laid.{ReadPut, MoveLaid}
use Rattle.sectors.specs.Moves.{are_too_long, moved_names}
use Rattle.sectors.proofs.Laws.Images.{laid_over, laid_missing, wanted_first, wanted_second}
use Rattle.sectors.proofs.Laws.There.{move_wants}

module _ (array : List ℕ) (book : ℕ) (list image before first : List ℕ) (erased : before ≡ padded []) where
  abbrev moved : List (List ℕ)
  moved = moved_names array book list

  same_length : length (records_bytes true moved) ≡ length (records_bytes false moved)
  same_length = records_long true false moved

  -- they don't fit
  pub laid_not : (after : List ℕ) → ReadPut array book list false before first None → MoveLaid array book list image after (Err RecordsTooLong)
  laid_not after read =
      let long : 4096 < length (records_bytes true moved) =
      ⊎_elim (λ h. h) (λ fits. absurd (cc (read.laid (omega (arith, fits, same_length))).1)) (split 4096 (length (records_bytes true moved))) in
      let yes = lt-ltb 4096 (length (records_bytes true moved)) long in
      record { number_is = rw yes refl; laid = λ f. absurd (true≢false (sym yes ∙ f)) }

  -- they do
  module _ (end : ℕ) (read : ReadPut array book list false before first (Some end)) where
    short : length (records_bytes false moved) ≤ 4096
    short = ⊎_elim (λ over. absurd (cc (read.too_long over))) (λ h. h) (split 4096 (length (records_bytes false moved)))

    put : Put 0 (records_bytes false moved) before first end
    put = let l = read.laid short in let same : l.0 ≡ end = cc l.1 in rw same at l.2

    first_put : first ≡ padded (records_bytes false moved)
    first_put = laid_over [] [] (records_bytes false moved) before first 0 end refl erased (omega arith) (omega (arith, short)) put

    not_long : are_too_long moved ≡ false
    not_long = le-ltb 4096 (length (records_bytes true moved)) (omega (arith, short, same_length))

    -- whether something of it is missing
    module _ (missing : Bool) (is : missing ≡ is_missing (take end first) image) where
      told : missing ≡ is_missing (records_bytes false moved) image
      told =
          let all : end ≡ end - 0 = omega arith in
          is ∙ ap (λ (n : ℕ). is_missing (take n first) image) all
          ∙ laid_missing [] (records_bytes false moved) first image 0 end refl put.behind first_put (omega (arith, short))

      pub laid_first : missing ≡ true → MoveLaid array book list image first (Ok tt)
      laid_first e = record {
        number_is = rw not_long refl;
        laid = λ _. first_put ∙ sym (move_wants image (is_read array book) (names_in (listed list)) ∙ wanted_first image [] moved (sym told ∙ e));
      }

      pub laid_second : (after : List ℕ) (next : Option ℕ) → missing ≡ false → ReadPut array book list true first after next
          → MoveLaid array book list image after (Ok tt)
      laid_second after next e second =
          let l = second.laid (omega (arith, short, same_length)) in
          record {
            number_is = rw not_long refl;
            laid = λ _.
                laid_over [] (records_bytes false moved) (records_bytes true moved) first after 0 l.0 refl first_put
                (omega (arith, same_length)) (omega (arith, short, same_length)) l.2
                ∙ sym (move_wants image (is_read array book) (names_in (listed list)) ∙ wanted_second image [] moved (sym told ∙ e));
          }
