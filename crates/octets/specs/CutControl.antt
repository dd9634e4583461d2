-- A control part that ends too early (document 01's refusal 3), without saying how it is read.
use Rattle.std.specs.Prelude.{ℕ, ◌≤◌, List, ◌++◌, length}
use Rattle.octets.specs.ControlPart.{ControlPart}

-- A control part whose last octet or octets are missing; at least its first is there. `missing` would complete it. No beginning of such
-- octets is a control part itself (`cut_no_part` in proofs/CutControl.antt).
pub record CutControl (s : List ℕ) : Type 0 where
  pub tag : ℕ
  pub len : ℕ
  pub missing : List ℕ
  pub some : 1 ≤ length s
  pub too_few : 1 ≤ length missing
  pub part : ControlPart tag len (s ++ missing)
