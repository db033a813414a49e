-- Time (01, "State"; a status write's 02, A4): n microseconds pass for a sound state.
use Rattle.std.specs.Prelude.{◌≡◌, true, false, ℕ, ◌-◌, ◌≤◌, ◌<◌}
use Rattle.state.specs.declared.State.{State}
use Rattle.state.specs.State.{with_left, with_wel, with_aai}
use Rattle.state.specs.Protection.{first_protected}
use Rattle.state.specs.Soundness.{is_sound}
use Rattle.state.specs.Time.{pass_time}
use Rattle.rules.specs.Power.{written_05pa}

pub record Time (s : State) (n : ℕ) (sound : is_sound s ≡ true) : Type 0 where
  -- "left falls by n, not below 0."
  pub left_falls : (pass_time s n).state.left ≡ s.left - n
  -- "When it reaches 0 from above, WEL becomes 0,
  pub wel_falls : 0 < s.left → s.left ≤ n → s.aai ≡ false → s.pending ≡ false → (pass_time s n).state ≡ with_wel (with_left s 0) false
  -- except that AAI with next below the first protected address keeps AAI and WEL;
  pub aai_waits : 0 < s.left → s.left ≤ n → s.aai ≡ true → s.next < first_protected s → (pass_time s n).state ≡ with_left s 0
  -- at that address both become 0 and next 0."
  pub aai_ends : 0 < s.left → s.left ≤ n → s.aai ≡ true → s.next ≡ first_protected s
      → (pass_time s n).state ≡ with_aai (with_wel (with_left s 0) false) false 0
  -- of a status write "WEL stays 1 until the end, the new bits are seen only then"
  pub status_ends : 0 < s.left → s.left ≤ n → s.pending ≡ true → (pass_time s n).state ≡ written_05pa s.pending_bits
  -- "Time changes nothing else": while BUSY lasts
  pub busy_still : n < s.left → (pass_time s n).state ≡ with_left s (s.left - n)
  -- and where it is 0
  pub not_busy : s.left ≡ 0 → (pass_time s n).state ≡ s
  -- "An accepted call's number is 0."
  pub accepted : (pass_time s n).number ≡ 0
