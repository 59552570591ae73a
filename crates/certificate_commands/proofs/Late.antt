-- Where a loop has a trace, all its branches begin at 0.
--   followed_at_zero
use Rattle.std.proofs.Common.{◌≡◌, ℕ, zero, suc, List, [], ◌∷◌, map, refl, sym, subst}
use Rattle.machines.specs.Journal.{Entry}
use Rattle.loops.specs.Program.{Expr, Program}
use Rattle.rounds.specs.Journal.{since_of}
use Rattle.rounds.proofs.Forms.{forms_are_one}
use Rattle.corollaries.specs.Full.{WrittenForm, as_form}
use Rattle.corollaries.specs.Trace.{State}
use Rattle.corollaries.specs.Followed.{Follows}
use Rattle.full_trace.specs.Late.{AllBeginAtZero}

written_at_zero : (fs : List WrittenForm) (b : ℕ) → since_of (map as_form fs) b ≡ 0
written_at_zero [] b = refl
written_at_zero (f ∷ fs) zero = refl
written_at_zero (f ∷ fs) (suc b) = written_at_zero fs b

pub followed_at_zero : (l : Program (Expr ℕ)) (rounds : ℕ) (es : List Entry) (s : State)
    → Follows l rounds es s → AllBeginAtZero l
followed_at_zero l rounds es s x forms are_forms b =
    subst (λ fs. since_of fs b ≡ 0)
    (sym (forms_are_one l forms (map as_form x.forms) are_forms x.are_forms))
    (written_at_zero x.forms b)
