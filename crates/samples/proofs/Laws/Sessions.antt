-- Every sample session holds: one test computed over a memory function instead of an array, and a lemma that turns it into the session's facts.
-- Assumes nothing.
use mathlib.Core.Path.{◌≡◌, refl, sym, ap, ◌∙◌}
use mathlib.Core.Bool.{Bool, true, false, ◌&&◌, not}
use mathlib.Core.List.{List, [], ◌∷◌, ◌++◌}
use Prim.Native.Nat.{ℕ, ◌<◌}
use native.Mathlib.Omega.{arith}
use lib.Dec.{leb, ltb, eqb}
use lib.ListN.{length, get_or}
use borrow.Author.Tests.{eqb-true, ltb-true, leb-true}
use Rattle.common.specs.Limits.{longest_frame}
use Rattle.common.specs.Lists.{within, Each}
use Rattle.common.proofs.Laws.Booleans.{and_l, and_r}
use Rattle.common.proofs.Laws.Lists.{length_mapi, get_d_mapi, tab_cong}
use Rattle.common.proofs.Laws.Each.{each_append}
use Rattle.state.specs.declared.State.{State}
use Rattle.state.specs.declared.Answer.{Answer}
use Rattle.chip.specs.Chip.{chip_of, is_known, kind_of}
use Rattle.state.specs.State.{data_of}
use Rattle.state.specs.Answer.{granted}
use Rattle.state.specs.Status.{status_of}
use Rattle.state.specs.Protection.{first_protected}
use Rattle.state.specs.Soundness.{is_sound}
use Rattle.state.specs.Power.{new_state, new_chip, powered_up, power_up}
use Rattle.state.specs.Time.{cycle_ended, time_passed, pass_time}
use Rattle.state.proofs.Laws.Passed.{pass_time_granted}
use Rattle.state.proofs.Laws.Power.{power_up_granted}
use Rattle.state.proofs.Laws.Soundness.{sound_of}
use Rattle.command.specs.Command.{address, writable, by_kind, in_aai, command_of}
use Rattle.registers.specs.Registers.{state_after}
use Rattle.output.specs.Output.{byte_of, driven_of, memory, shown_at}
use Rattle.effect.specs.Effect.{page_effect, touches, struck, changed}
use Rattle.frame.specs.Device.{Device, device, with_state}
use Rattle.frame.specs.Line.{Line, on_line, showing, Long}
use Rattle.frame.specs.Ran.{effect_at, state_at, ran_device, shown_line}
use Rattle.frame.specs.Call.{Accepted}
use Rattle.frame.proofs.Laws.Call.{frame_accepted}
use Rattle.frame.proofs.Laws.Line.{line_same}
use Rattle.frame.proofs.Laws.Ran.{ran_is, shown_is}
use Rattle.common.proofs.Laws.Pairs.{◌▹◌}
use Rattle.samples.specs.Session.{Step, send, pass, powered, byte_is, protects, plans, Runs, Session, Holds}
use Rattle.samples.specs.Table.{frame_sessions, driven_sessions, status_sessions, plan_session, protected_session, sessions}
use Rattle.samples.proofs.Laws.Plan.{plan_holds, protected_holds}
use Rattle.output.proofs.Laws.Memory.{shown_by_memory}

same : List ℕ → List ℕ → Bool
same [] [] = true
same [] (y ∷ ys) = false
same (x ∷ xs) [] = false
same (x ∷ xs) (y ∷ ys) = eqb x y && same xs ys

same_is : (xs ys : List ℕ) → same xs ys ≡ true → xs ≡ ys
unfolding same
same_is [] [] e = refl
same_is [] (y ∷ ys) e = absurd (mathlib.Core.Bool.false≢true e)
same_is (x ∷ xs) [] e = absurd (mathlib.Core.Bool.false≢true e)
same_is (x ∷ xs) (y ∷ ys) e = rw (eqb-true x y (and_l (eqb x y) (same xs ys) e), same_is xs ys (and_r (eqb x y) (same xs ys) e)) refl

bool_same : Bool → Bool → Bool
bool_same true b = b
bool_same false b = not b

bool_same_is : (a b : Bool) → bool_same a b ≡ true → a ≡ b
unfolding bool_same
bool_same_is true b e = sym e
bool_same_is false true e = e
bool_same_is false false e = refl

-- the memory after a frame
abbrev after : State → List ℕ → (ℕ → ℕ) → ℕ → ℕ
after s f m k = changed (effect_at s true f) f k (m k)

-- the frame's call accepts it, on a chip of this size and with a line of its length
accepts : ℕ → State → List ℕ → Bool
accepts size s f = is_sound s && (eqb size (data_of s).size && (ltb 0 (length f) && leb (length f) longest_frame))

-- what the frame shows over a memory function
abbrev line : State → List ℕ → (ℕ → ℕ) → Line
line s f m = showing (length f) (shown_at s (command_of s true f) m)

-- the steps, run over a memory function
test : ℕ → State → (ℕ → ℕ) → List Step → Bool
test size s m [] = true
test size s m (send f output driven ∷ steps) =
    accepts size s f
    && ((same (line s f m).output output && same (line s f m).driven driven) && test size (state_at s true f) (after s f m) steps)
test size s m (pass n ∷ steps) = is_sound s && test size (time_passed s n) m steps
test size s m (powered ∷ steps) = is_sound s && test size (powered_up s) m steps
test size s m (byte_is address byte ∷ steps) = ltb address size && (eqb (m address) byte && test size s m steps)
test size s m (plans start wanted room script frames microseconds ∷ steps) = false
test size s m (protects address answer ∷ steps) = bool_same (leb (first_protected s) address) answer && test size s m steps

Agree : ℕ → List ℕ → (ℕ → ℕ) → Type 0
Agree size array m = (length array ≡ size) × ((k : ℕ) → k < size → get_or array k 0 ≡ m k)

-- a frame, seen through the memory
module _ (size : ℕ) (s : State) (f : List ℕ) (m : ℕ → ℕ) (array : List ℕ) (q : accepts size s f ≡ true) where
  abbrev d : Device
  d = device s array

  took : Agree size array m → (lent : Line) → Long (length f) lent → Accepted true f d lent
  unfolding Agree accepts
  took a lent long =
      let r = and_r (is_sound s) _ q in
      let t = and_r (eqb size (data_of s).size) _ r in
      record {
        sound = sound_of s (and_l (is_sound s) _ q);
        sized = a.0 ∙ eqb-true size (data_of s).size (and_l (eqb size (data_of s).size) _ r);
        some = ltb-true 0 (length f) (and_l (ltb 0 (length f)) _ t);
        short = leb-true (length f) longest_frame (and_r (ltb 0 (length f)) _ t);
        same = long;
      }

  shows : Agree size array m → shown_line true f d ≡ line s f m
  unfolding Agree
  shows a =
      let c = command_of s true f in
      let sized = (took a (on_line f f) record { output_long = refl; driven_long = refl }).sized in
      let at : (i : ℕ) → shown_at s c (memory array) i ≡ shown_at s c m i = shown_by_memory s c (memory array) m (λ k h. a.1 k (omega (arith, a.0, sized))) in
      shown_is true f d
      ∙ line_same (tab_cong (length f) (λ i. byte_of (shown_at s c (memory array) i)) (λ i. byte_of (shown_at s c m i)) (λ i. ap byte_of (at i)))
      (tab_cong (length f) (λ i. driven_of (shown_at s c (memory array) i)) (λ i. driven_of (shown_at s c m i)) (λ i. ap driven_of (at i)))

  leaves : Agree size array m → Agree size (ran_device true f d).array (after s f m)
  unfolding Agree
  leaves a =
      let e = ap (λ (x : Device). x.array) (ran_is true f d) in
      let F = changed (effect_at s true f) f in (
        ap length e ∙ length_mapi F array ∙ a.0,
        λ k h. ap (λ (l : List ℕ). get_or l k 0) e ∙ get_d_mapi F array k 0 (omega (arith, a.0)) ∙ ap (F k) (a.1 k h),
      )

byte_there : (size : ℕ) (array : List ℕ) (m : ℕ → ℕ) (address byte : ℕ) → Agree size array m → address < size → m address ≡ byte → get_or array address 0 ≡ byte
unfolding Agree
byte_there size array m address byte a h b = a.1 address h ∙ b

runs : (size : ℕ) (steps : List Step) (d : Device) (m : ℕ → ℕ) → test size d.state m steps ≡ true → Agree size d.array m → Runs d steps
unfolding test
runs size [] d m e a = tt
runs size (send f output driven ∷ steps) d m e a =
    let s = d.state in
    let q = and_l (accepts size s f) _ e in
    let r = and_r (accepts size s f) _ e in
    let o = same (line s f m).output output in
    let t = o && same (line s f m).driven driven in
    let told : line s f m ≡ on_line output driven = line_same (same_is _ output (and_l o _ (and_l t _ r))) (same_is _ driven (and_r o _ (and_l t _ r))) in
    let out : on_line output driven ≡ shown_line true f d = sym (shows size s f m d.array q a ∙ told) in
    let next : test size (ran_device true f d).state (after s f m) steps ≡ true = rw (ran_is true f d) (and_r t _ r) in (
      λ lent long. frame_accepted true f d lent (took size s f m d.array q a lent long) record { device_is = refl; line_is = out },
      runs size steps (ran_device true f d) (after s f m) next (leaves size s f m d.array q a),
    )
runs size (pass n ∷ steps) d m e a =
    let s = d.state in
    let z : pass_time s n ≡ granted (time_passed s n) = pass_time_granted s n (sound_of s (and_l (is_sound s) _ e)) in
    (ap (λ (x : Answer). x.number) z, rw z (runs size steps (with_state d (time_passed s n)) m (and_r (is_sound s) _ e) a))
runs size (powered ∷ steps) d m e a =
    let s = d.state in
    let z : power_up s ≡ granted (powered_up s) = power_up_granted s (sound_of s (and_l (is_sound s) _ e)) in
    (ap (λ (x : Answer). x.number) z, rw z (runs size steps (with_state d (powered_up s)) m (and_r (is_sound s) _ e) a))
runs size (byte_is address byte ∷ steps) d m e a =
    let r = and_r (ltb address size) _ e in
    (byte_there size d.array m address byte a (ltb-true address size (and_l (ltb address size) _ e)) (eqb-true (m address) byte (and_l (eqb (m address) byte) _ r)), runs size steps d m (and_r (eqb (m address) byte) _ r) a)
runs size (plans start wanted room script frames microseconds ∷ steps) d m e a = absurd (mathlib.Core.Bool.false≢true e)
runs size (protects address answer ∷ steps) d m e a =
    let t = bool_same (leb (first_protected d.state) address) answer in
    (bool_same_is (leb (first_protected d.state) address) answer (and_l t _ e), runs size steps d m (and_r t _ e) a)

abbrev passes : List Session → Bool
passes [] = true
passes (x ∷ xs) = test (data_of x.state).size x.state (λ _. x.fill) x.steps && passes xs

all_hold : (xs : List Session) → passes xs ≡ true → Each Holds xs
unfolding Agree
all_hold [] e = tt
all_hold (x ∷ xs) e =
    let t = test (data_of x.state).size x.state (λ _. x.fill) x.steps in
    (λ array n h. runs (data_of x.state).size x.steps (device x.state array) (λ _. x.fill) (and_l t (passes xs) e) (n, λ k b. h k (omega (arith, n))), all_hold xs (and_r t (passes xs) e))

computed : passes (frame_sessions ++ driven_sessions ++ status_sessions) ≡ true
unfolding test accepts same bool_same is_sound chip_of is_known status_of first_protected new_state new_chip powered_up cycle_ended time_passed kind_of address writable by_kind in_aai command_of state_after shown_at page_effect touches struck changed within
computed = refl

pub samples_hold : Each Holds sessions
samples_hold =
    each_append Holds (frame_sessions ++ driven_sessions ++ status_sessions) (plan_session ∷ protected_session ∷ [])
    (all_hold (frame_sessions ++ driven_sessions ++ status_sessions) computed) (plan_holds ▹ protected_holds ▹ tt)
