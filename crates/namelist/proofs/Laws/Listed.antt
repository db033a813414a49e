-- The laws of `listed`: the names of a list are read from their bytes, and from no others.
-- Assumes nothing.
use mathlib.Core.Path.{◌≡◌, refl, sym, ap, ◌∙◌}
use mathlib.Core.Bool.{true, false}
use mathlib.Core.List.{List, [], ◌∷◌, ◌++◌, append_assoc}
use Prim.Native.Nat.{ℕ, zero, suc, ◌+◌, ◌≤◌, ◌<◌}
use native.Mathlib.Nat.{le_refl}
use native.Mathlib.Omega.{arith}
use lib.Dec.{leb, ltb}
use lib.ListN.{length, take, drop, length-append}
use lib.Seq.{take_at, drop_at}
use borrow.Author.Tests.{leb-true, le-leb, le-ltb}
use Rattle.common.specs.Refusals.{Exactly}
use Rattle.common.proofs.Laws.Choice.{cond_elim}
use Rattle.common.proofs.Laws.Turns.{turns_same, by_length}
use Rattle.names.specs.Records.{Front, none, item, front_body, is_name, AllNames}
use Rattle.names.proofs.Laws.Front.{body_exactly}
use Rattle.namelist.specs.Listed.{
  Listed,
  bad,
  names,
  before,
  listed_on,
  listed_within,
  listed_all,
  few,
  listed,
  is_bad,
  names_in,
  count_in,
  entries_bytes,
  Listing,
  Good,
}

-- ---- one name after another

-- what is behind a name is no longer than what is behind its length
rest_short : (n : ℕ) (bytes : List ℕ) {name rest : List ℕ} → front_body n bytes ≡ item name rest → length rest ≤ length bytes
rest_short n bytes {name} {rest} e = let b = (body_exactly n bytes name rest).when e in omega (arith, ap length b.is, length-append name rest)

-- two ways to read on that agree on what is no longer
on_same : (x : ℕ) (bytes : List ℕ) (go go' : List ℕ → Listed) (f : Front) → front_body x bytes ≡ f
    → ((rest : List ℕ) → length rest ≤ length bytes → go rest ≡ go' rest)
    → listed_on f go ≡ listed_on f go'
on_same x bytes go go' none e same = refl
on_same x bytes go go' (item name rest) e same = ap (before name) (same rest (rest_short x bytes e))

within_end : (n : ℕ) → listed_within n [] ≡ names []
unfolding listed_within
within_end zero = refl
within_end (suc n) = refl

within_turn : (n m : ℕ) (bytes : List ℕ) → ((rest : List ℕ) → length rest < length bytes → listed_within n rest ≡ listed_within m rest)
    → listed_within (suc n) bytes ≡ listed_within (suc m) bytes
unfolding listed_within
within_turn n m [] go = refl
within_turn n m (x ∷ bytes) go = on_same x bytes (listed_within n) (listed_within m) (front_body x bytes) refl (λ rest h. go rest (omega arith))

-- where the bytes are at most as many as the turns, more turns read the same
within_same : (n m : ℕ) (bytes : List ℕ) → length bytes ≤ n → length bytes ≤ m → listed_within n bytes ≡ listed_within m bytes
within_same = turns_same listed_within (λ n. within_end n ∙ sym (within_end 0)) within_turn

pub all_none : listed_all [] ≡ names []
unfolding listed_all
all_none = within_end 0

pub all_first : (x : ℕ) (bytes : List ℕ) → listed_all (x ∷ bytes) ≡ listed_on (front_body x bytes) listed_all
unfolding listed_all listed_within
all_first x bytes =
    on_same x bytes (listed_within (length bytes)) (λ rest. listed_within (length rest) rest) (front_body x bytes) refl
    (λ rest h. within_same (length bytes) (length rest) rest h (le_refl (length rest)))

-- ---- the bytes of names, and no others

pub entries_none : entries_bytes [] ≡ []
unfolding entries_bytes
entries_none = refl

pub entries_first : (name : List ℕ) (ns : List (List ℕ)) → entries_bytes (name ∷ ns) ≡ length name ∷ (name ++ entries_bytes ns)
unfolding entries_bytes
entries_first name ns = refl

pub entries_length : (name : List ℕ) (ns : List (List ℕ)) → length (entries_bytes (name ∷ ns)) ≡ 1 + length name + length (entries_bytes ns)
entries_length name ns = omega (arith, ap length (entries_first name ns), length-append name (entries_bytes ns))

pub entries_append : (ms ns : List (List ℕ)) → entries_bytes (ms ++ ns) ≡ entries_bytes ms ++ entries_bytes ns
unfolding entries_bytes
entries_append [] ns = refl
entries_append (name ∷ ms) ns =
    ap (λ (l : List ℕ). (length name ∷ name) ++ l) (entries_append ms ns) ∙ sym (append_assoc (length name ∷ name) (entries_bytes ms) (entries_bytes ns))

-- they are read back
all_entries : (ns : List (List ℕ)) → AllNames ns → listed_all (entries_bytes ns) ≡ names ns
all_entries [] good = rw entries_none all_none
all_entries (name ∷ ns) good =
    let body = (body_exactly (length name) (name ++ entries_bytes ns) name (entries_bytes ns)).only_when record { good = good.0; long = refl; is = refl } in
    rw (entries_first name ns, all_first (length name) (name ++ entries_bytes ns), body, all_entries ns good.1) refl

-- what is read is their bytes
record Entries (bytes : List ℕ) (ns : List (List ℕ)) : Type 0 where
  good : AllNames ns
  is : bytes ≡ entries_bytes ns

abbrev Seen : List ℕ → Listed → Type 0
Seen bytes bad = Unit {0}
Seen bytes (names ns) = Entries bytes ns

seen_before : (x : ℕ) (bytes name rest : List ℕ) (l : Listed) → front_body x bytes ≡ item name rest → Seen rest l → Seen (x ∷ bytes) (before name l)
seen_before x bytes name rest bad e s = tt
seen_before x bytes name rest (names ns) e s =
    let b = (body_exactly x bytes name rest).when e in
    record { good = (b.good, s.good); is = rw (entries_first name ns, b.long, b.is, s.is) refl }

seen_on : (x : ℕ) (bytes : List ℕ) (f : Front) → front_body x bytes ≡ f
    → ((rest : List ℕ) → length rest < length (x ∷ bytes) → Seen rest (listed_all rest))
    → Seen (x ∷ bytes) (listed_on f listed_all)
seen_on x bytes none e behind = tt
seen_on x bytes (item name rest) e behind = seen_before x bytes name rest (listed_all rest) e (behind rest (omega (arith, rest_short x bytes e)))

all_seen : (bytes : List ℕ) → Seen bytes (listed_all bytes)
all_seen = by_length (λ bytes. Seen bytes (listed_all bytes)) turn
  where
    turn : (bytes : List ℕ) → ((rest : List ℕ) → length rest < length bytes → Seen rest (listed_all rest)) → Seen bytes (listed_all bytes)
    turn [] behind = rw all_none record { good = tt; is = sym entries_none }
    turn (x ∷ bytes) behind = rw (all_first x bytes) (seen_on x bytes (front_body x bytes) refl behind)

few_listing : (bytes : List ℕ) (ns : List (List ℕ)) (l : Listed) → Seen bytes l → few l ≡ names ns → Listing bytes ns
few_listing bytes ns bad s e = let z : ◌≡◌ {A = ℕ} 0 1 = cc in absurd (omega arith)
few_listing bytes ns (names ms) s e =
    cond_elim (λ (l : Listed). l ≡ names ns → Listing bytes ns) (leb (length ms) 4096)
    (λ t e. let same : ms ≡ ns = cc in
    let listing : Listing bytes ms = record { good = s.good; at_most = leb-true (length ms) 4096 t; is = s.is } in
    rw same at listing)
    (λ f e. let z : ◌≡◌ {A = ℕ} 0 1 = cc in absurd (omega arith)) e

pub listed_few : (bytes : List ℕ) → listed bytes ≡ few (listed_all bytes)
unfolding listed
listed_few bytes = refl

pub listed_exactly : (bytes : List ℕ) (ns : List (List ℕ)) → Exactly (listed bytes ≡ names ns) (Listing bytes ns)
listed_exactly bytes ns = record {
  when = λ e. few_listing bytes ns (listed_all bytes) (all_seen bytes) (sym (listed_few bytes) ∙ e);
  only_when = λ l. listed_few bytes ∙ ap few (ap listed_all l.is ∙ all_entries ns l.good) ∙ rw (le-leb (length ns) 4096 l.at_most) refl;
}

pub listing_names : (bytes : List ℕ) (ns : List (List ℕ)) → Listing bytes ns → names_in (listed bytes) ≡ ns
listing_names bytes ns l = ap names_in ((listed_exactly bytes ns).only_when l)

-- ---- good and bad

pub listing_good : (bytes : List ℕ) (ns : List (List ℕ)) → Listing bytes ns → Good bytes
listing_good bytes ns l = rw (listing_names bytes ns l) l

-- a good list has the names that are read from it
pub good_names : (bytes : List ℕ) → Good bytes → listed bytes ≡ names (names_in (listed bytes))
good_names bytes good = (listed_exactly bytes (names_in (listed bytes))).only_when good

pub good_count : (bytes : List ℕ) → Good bytes → count_in (listed bytes) ≡ length (names_in (listed bytes))
good_count bytes good = ap count_in (good_names bytes good)

-- and at most 4,096 of them
pub counted_good : (bytes : List ℕ) → count_in (listed bytes) ≤ 4096 → Good bytes
counted_good bytes h = by (listed bytes) refl h
  where
    by : (l : Listed) → listed bytes ≡ l → count_in l ≤ 4096 → Listing bytes (names_in l)
    by bad e h = absurd (omega arith)
    by (names ns) e h = (listed_exactly bytes ns).when e

-- the lists that are not bad are the good ones
pub good_exactly : (bytes : List ℕ) → Exactly (is_bad (listed bytes) ≡ false) (Good bytes)
good_exactly bytes = record { when = by (listed bytes) refl; only_when = λ good. ap is_bad (good_names bytes good) }
  where
    by : (l : Listed) → listed bytes ≡ l → is_bad l ≡ false → Listing bytes (names_in l)
    by bad e f = let z : ◌≡◌ {A = ℕ} 0 1 = cc in absurd (omega arith)
    by (names ns) e f = (listed_exactly bytes ns).when e

-- ---- a good list, name by name

pub good_none : (bytes : List ℕ) → length bytes ≡ 0 → names_in (listed bytes) ≡ []
good_none [] e = ap names_in (listed_few [] ∙ ap few all_none)
good_none (x ∷ bytes) e = absurd (omega arith)

pub good_most : (bytes : List ℕ) → is_bad (listed bytes) ≡ false → length (names_in (listed bytes)) ≤ 4096
good_most bytes good = ((good_exactly bytes).when good).at_most

-- a bad list is one that counts more names than a list may have
pub bad_count : (bytes : List ℕ) → is_bad (listed bytes) ≡ ltb 4096 (count_in (listed bytes))
bad_count bytes = by (listed bytes) refl
  where
    by : (l : Listed) → listed bytes ≡ l → is_bad l ≡ ltb 4096 (count_in l)
    by bad e = refl
    by (names ns) e = sym (le-ltb 4096 (length ns) ((listed_exactly bytes ns).when e).at_most)

-- its first name, and the list behind it
pub record First (bytes : List ℕ) (n : ℕ) (rest : List ℕ) : Type 0 where
  pub inside : n ≤ length rest
  pub good : is_name (take n rest) ≡ true
  pub names_are : names_in (listed bytes) ≡ take n rest ∷ names_in (listed (drop n rest))
  pub behind : is_bad (listed (drop n rest)) ≡ false

first_of : (n : ℕ) (rest : List ℕ) (ns : List (List ℕ)) → names_in (listed (n ∷ rest)) ≡ ns → Listing (n ∷ rest) ns → First (n ∷ rest) n rest
first_of n rest [] e l = cc (l.is ∙ entries_none)
first_of n rest (name ∷ others) e l =
    let is : n ∷ rest ≡ length name ∷ (name ++ entries_bytes others) = l.is ∙ entries_first name others in
    let long : n ≡ length name = cc is in
    let body : rest ≡ name ++ entries_bytes others = cc is in
    let first : take n rest ≡ name = rw body (take_at name (entries_bytes others) n (sym long)) in
    let behind : listed (drop n rest) ≡ names others = (listed_exactly (drop n rest) others).only_when record {
      good = l.good.1;
      at_most = omega (arith, l.at_most);
      is = rw body (drop_at name (entries_bytes others) n (sym long));
    } in
    record {
      inside = omega (arith, long, ap length body, length-append name (entries_bytes others));
      good = ap is_name first ∙ l.good.0;
      names_are = rw (first, ap names_in behind) e;
      behind = ap is_bad behind;
    }

pub good_first : (bytes : List ℕ) (n x : ℕ) (rest : List ℕ) → is_bad (listed bytes) ≡ false → bytes ≡ x ∷ rest → n ≡ x → First bytes n rest
good_first bytes n x rest good e same =
    rw (e, sym same) (first_of n rest (names_in (listed (n ∷ rest))) refl ((good_exactly (n ∷ rest)).when (rw (e, sym same) at good)))
