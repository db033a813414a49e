-- Bytes with FF behind them: no byte of a record is FF, so no record begins among the bytes and ends in the FF.
-- Assumes nothing.
use mathlib.Core.Path.{◌≡◌, refl, sym, ap, ◌∙◌}
use mathlib.Core.Bool.{true}
use mathlib.Core.List.{List, [], ◌∷◌, ◌++◌, append_assoc, append-nil}
use mathlib.Core.Logic.{⊎_elim}
use Prim.Native.Nat.{ℕ, zero, suc, ◌+◌, ◌-◌, ◌≤◌, ◌<◌}
use native.Mathlib.Nat.{add-zero}
use native.Mathlib.Omega.{arith}
use lib.Dec.{leb}
use lib.ListN.{length, get_or, take, drop, replicate, length-append, length-drop, length-replicate, get_or-replicate, take-append-drop}
use lib.Seq.{take-append-le, drop-append-add, take_at, get_or-append-add, ext_get_or}
use borrow.Author.Tests.{leb-true, le-leb, lt-leb, lt-ltb}
use Rattle.common.specs.Buffer.{written}
use Rattle.common.specs.Lists.{mapi, on_run}
use Rattle.common.proofs.Laws.Booleans.{and_r}
use Rattle.common.proofs.Laws.Buffer.{written_front, written_behind}
use Rattle.common.proofs.Laws.Lists.{split, get_d_front, get_d_behind, drop_replicate, length_mapi, get_d_mapi}
use Rattle.names.specs.Records.{all_name, is_name, Front, none, item, front, names_of, record_bytes, records_bytes, AllNames, padded}
use Rattle.names.proofs.Laws.Front.{name_most, name_all, all_exactly, front_nil, front_record, front_item}
use Rattle.names.proofs.Laws.Names.{names_none, names_append, names_split, names_determined}

-- ---- no byte of a record is FF

all_below : (name : List ℕ) (i : ℕ) → all_name name ≡ true → i < length name → get_or name i 0 < 0xff
all_below name i good h =
    let byte : ℕ = get_or name i 0 in
    omega (arith, leb-true byte 0x7e (and_r (leb 0x20 byte) (leb byte 0x7e) ((all_exactly name).when good i h)))

pub name_below : (name : List ℕ) → is_name name ≡ true → (i : ℕ) → i < length name → get_or name i 0 < 0xff
name_below name good i h = all_below name i (name_all name good) h

record_below : (name : List ℕ) (i : ℕ) → is_name name ≡ true → i < 3 + length name → get_or (record_bytes true name) i 0 < 0xff
record_below name zero good h = omega arith
record_below name (suc zero) good h = omega arith
record_below name (suc (suc zero)) good h = omega (arith, name_most name good)
record_below name (suc (suc (suc i))) good h = name_below name good i (omega arith)

pub records_below : (names : List (List ℕ)) (i : ℕ) → AllNames names → i < length (records_bytes true names) → get_or (records_bytes true names) i 0 < 0xff
unfolding records_bytes
records_below [] i good h = absurd (omega arith)
records_below (name ∷ names) i good h =
    let record_is : List ℕ = record_bytes true name in
    let rest : List ℕ = records_bytes true names in
    ⊎_elim
    (λ first. rw (get_d_front record_is rest i (omega arith)) (record_below name i good.0 (omega arith)))
    (λ later. rw (get_d_behind record_is rest i (omega arith)) (records_below names (i - length record_is) good.1 (omega (arith, h, length-append record_is rest))))
    (split i (3 + length name))

-- ---- what stands at the front of some bytes

-- a record stays there whatever comes behind
pub front_more : (bytes more : List ℕ) {name rest : List ℕ} → front bytes ≡ item name rest → front (bytes ++ more) ≡ item name (rest ++ more)
front_more bytes more {name} {rest} e =
    let i = front_item bytes e in
    rw i.is (ap front (append_assoc (record_bytes true name) rest more) ∙ front_record name (rest ++ more) i.good)

-- the bytes of a record at the front, and each of them
record_front : (name rest : List ℕ) → take (3 + length name) (record_bytes true name ++ rest) ≡ record_bytes true name
record_front name rest = take_at (record_bytes true name) rest (3 + length name) (omega arith)

record_at_lem : (name rest : List ℕ) (i : ℕ) → i < 3 + length name → get_or (record_bytes true name ++ rest) i 0 ≡ get_or (record_bytes true name) i 0
record_at_lem name rest i h =
    get_d_front (record_bytes true name) rest i (omega arith)

-- and with FF behind bytes none begins there: it would reach into the FF
record_inside : (bytes name rest : List ℕ) (m : ℕ) → is_name name ≡ true → bytes ++ replicate m 0xff ≡ record_bytes true name ++ rest
    → 3 + length name ≤ length bytes
record_inside bytes name rest m good e = ⊎_elim (λ short. absurd (past short)) (λ fits. fits) (split (length bytes) (3 + length name))
  where
    past : length bytes < 3 + length name → ⊥
    past h =
        let long = ap length e in
        let some : 0 < m = omega (arith, long, length-append bytes (replicate m 0xff), length-replicate {A = ℕ} m 0xff, length-append name rest) in
        let erased : get_or (bytes ++ replicate m 0xff) (length bytes) 0 ≡ 0xff =
        ap (λ (k : ℕ). get_or (bytes ++ replicate m 0xff) k 0) (sym (add-zero (length bytes)))
        ∙ get_or-append-add bytes (replicate m 0xff) 0 0 ∙ get_or-replicate m 0 0xff 0 some in
        let told : get_or (record_bytes true name) (length bytes) 0 ≡ 0xff =
        sym (record_at_lem name rest (length bytes) h) ∙ ap (λ (l : List ℕ). get_or l (length bytes) 0) (sym e) ∙ erased in
        omega (arith, told, record_below name (length bytes) good h)

pub front_erased_behind : (bytes : List ℕ) (m : ℕ) → front bytes ≡ none → front (bytes ++ replicate m 0xff) ≡ none
front_erased_behind bytes m e = by (front (bytes ++ replicate m 0xff)) refl
  where
    standing : (name rest : List ℕ) → is_name name ≡ true → bytes ++ replicate m 0xff ≡ record_bytes true name ++ rest
        → bytes ≡ record_bytes true name ++ drop (3 + length name) bytes
    standing name rest good is =
        let inside = record_inside bytes name rest m good is in
        let taken : take (3 + length name) bytes ≡ record_bytes true name =
        sym (take-append-le (3 + length name) bytes (replicate m 0xff) inside) ∙ ap (take (3 + length name)) is ∙ record_front name rest in
        sym (take-append-drop (3 + length name) bytes) ∙ ap (λ (l : List ℕ). l ++ drop (3 + length name) bytes) taken

    by : (f : Front) → front (bytes ++ replicate m 0xff) ≡ f → f ≡ none
    by none q = refl
    by (item name rest) q =
        let i = front_item (bytes ++ replicate m 0xff) q in
        let is : front bytes ≡ item name (drop (3 + length name) bytes) =
        ap front (standing name rest i.good i.is) ∙ front_record name (drop (3 + length name) bytes) i.good in
        let clash : none ≡ item name (drop (3 + length name) bytes) = sym e ∙ is in
        let z : ◌≡◌ {A = ℕ} 0 1 = cc in absurd (omega arith)

-- ---- the names

pub names_erased_behind : (bytes : List ℕ) (m : ℕ) → names_of (bytes ++ replicate m 0xff) ≡ names_of bytes
names_erased_behind bytes m =
    let s = names_split bytes in
    sym (names_determined (bytes ++ replicate m 0xff) (names_of bytes) record {
      good = s.good;
      rest = s.rest ++ replicate m 0xff;
      is = ap (λ (l : List ℕ). l ++ replicate m 0xff) s.is ∙ append_assoc (records_bytes true (names_of bytes)) s.rest (replicate m 0xff);
      ends = front_erased_behind s.rest m s.ends;
    })

pub padded_names : (bytes : List ℕ) → names_of (padded bytes) ≡ names_of bytes
unfolding padded
padded_names bytes = names_erased_behind bytes (4096 - length bytes)

-- good records are read back from a sector that holds nothing else
pub padded_reads_back : (names : List (List ℕ)) → AllNames names → names_of (padded (records_bytes true names)) ≡ names
unfolding padded
padded_reads_back names good =
    names_append names (replicate (4096 - length (records_bytes true names)) 0xff) good
    ∙ ap (λ (l : List (List ℕ)). names ++ l) (names_none _ (front_erased_behind [] (4096 - length (records_bytes true names)) front_nil))
    ∙ append-nil names

-- ---- a sector's bytes

-- an erased one
pub padded_none : padded [] ≡ replicate 4096 0xff
unfolding padded
padded_none = refl

pub padded_long : (bytes : List ℕ) → length bytes ≤ 4096 → length (padded bytes) ≡ 4096
unfolding padded
padded_long bytes h = omega (arith, length-append bytes (replicate (4096 - length bytes) 0xff), length-replicate {A = ℕ} (4096 - length bytes) 0xff)

pub padded_front : (bytes : List ℕ) (k : ℕ) → k < length bytes → get_or (padded bytes) k 0 ≡ get_or bytes k 0
unfolding padded
padded_front bytes k h = get_d_front bytes (replicate (4096 - length bytes) 0xff) k h

pub padded_behind : (bytes : List ℕ) (k : ℕ) → length bytes ≤ k → k < 4096 → get_or (padded bytes) k 0 ≡ 0xff
unfolding padded
padded_behind bytes k h l =
    get_d_behind bytes (replicate (4096 - length bytes) 0xff) k h ∙ get_or-replicate (4096 - length bytes) (k - length bytes) 0xff 0 (omega arith)

-- ---- laid into a sector's buffer

-- behind a front, over what stood there
pub padded_laid : (front old new : List ℕ) → length old ≤ length new → length front + length new ≤ 4096
    → written (length front) new (padded (front ++ old)) ≡ padded (front ++ new)
unfolding padded
padded_laid front old new shorter fits =
    let erased : List ℕ = replicate (4096 - length (front ++ old)) 0xff in
    let longer : length old + (length new - length old) ≡ length new = omega arith in
    let left : 4096 - length (front ++ old) - (length new - length old) ≡ 4096 - length (front ++ new) =
    omega (arith, length-append front old, length-append front new) in
    let rest : drop (length new) (old ++ erased) ≡ replicate (4096 - length (front ++ new)) 0xff =
    ap (λ (k : ℕ). drop k (old ++ erased)) (sym longer) ∙ drop-append-add old erased (length new - length old)
    ∙ drop_replicate (length new - length old) (4096 - length (front ++ old)) 0xff ∙ ap (λ (k : ℕ). replicate k 0xff) left in
    ap (written (length front) new) (append_assoc front old erased)
    ∙ written_behind front new (old ++ erased)
    ∙ ap (λ (l : List ℕ). front ++ (new ++ l)) rest
    ∙ sym (append_assoc front new (replicate (4096 - length (front ++ new)) 0xff))

-- bytes laid at the front, and the rest filled with FF
pub padded_filled : (bytes buffer : List ℕ) (n : ℕ) → n ≡ length bytes → n ≤ 4096 → length buffer ≡ 4096
    → mapi (on_run n 4096 (λ k x. 0xff)) (written 0 bytes buffer) ≡ padded bytes
unfolding padded
padded_filled bytes buffer n e fits sized =
    ap (mapi (on_run n 4096 (λ k x. 0xff))) (written_front bytes buffer)
    ∙ ext_get_or 0 (mapi (on_run n 4096 (λ k x. 0xff)) laid) (bytes ++ replicate (4096 - length bytes) 0xff) same_length at
  where
    laid : List ℕ
    laid = bytes ++ drop (length bytes) buffer

    long : length laid ≡ 4096
    long = omega (arith, length-append bytes (drop (length bytes) buffer), length-drop (length bytes) buffer, e, fits, sized)

    same_length : length (mapi (on_run n 4096 (λ k x. 0xff)) laid) ≡ length (bytes ++ replicate (4096 - length bytes) 0xff)
    same_length =
        omega (
          arith,
          length_mapi (on_run n 4096 (λ k x. 0xff)) laid,
          long,
          length-append bytes (replicate (4096 - length bytes) 0xff),
          length-replicate {A = ℕ} (4096 - length bytes) 0xff,
          e,
          fits,
        )

    at : (i : ℕ) → i < length (mapi (on_run n 4096 (λ k x. 0xff)) laid)
        → get_or (mapi (on_run n 4096 (λ k x. 0xff)) laid) i 0 ≡ get_or (bytes ++ replicate (4096 - length bytes) 0xff) i 0
    at i h =
        let below : i < 4096 = omega (arith, h, length_mapi (on_run n 4096 (λ k x. 0xff)) laid, long) in
        get_d_mapi (on_run n 4096 (λ k x. 0xff)) laid i 0 (omega (arith, below, long))
        ∙ ⊎_elim
        (λ less. rw (lt-leb n i less)
        (get_d_front bytes (drop (length bytes) buffer) i (omega arith) ∙ sym (get_d_front bytes (replicate (4096 - length bytes) 0xff) i (omega arith))))
        (λ from. rw (le-leb n i from, lt-ltb i 4096 below)
        (sym (get_d_behind bytes (replicate (4096 - length bytes) 0xff) i (omega arith)
        ∙ get_or-replicate (4096 - length bytes) (i - length bytes) 0xff 0 (omega (arith, below)))))
        (split i n)
