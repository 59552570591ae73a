-- What an answer of `decide` and `prove` shows.
--   stop_refuses, decides_settled       statuses of answers
--   told_when_yes, run_when_no, exhausted_when_budget, stop_when_refusing     what each status tells
--   yes_shown, counter_shown            what a yes and a no show
--   yes_ends                            where the entries of a yes lead
--   holds_shown                         where a yes is shown of a loop and an equation, it holds
--   not_invariant                       a word that counters refutes the equation
use Rattle.std.proofs.Common.{◌≡◌, inl, inr, ℕ, List, [], ◌∷◌, length, sym, ◌∙◌, arith}
use Rattle.algebra.specs.Each.{Each}
use Rattle.algebra.proofs.In.{each_from}
use Rattle.algebra.specs.Fraction.{Fraction}
use Rattle.polynomials.specs.Terms.{Terms}
use Rattle.machines.specs.Journal.{Journal}
use Rattle.loops.specs.Inv.{Inv}
use Rattle.loops.specs.Program.{Expr, Program}
use Rattle.loop_model.specs.Maps.{AreFree}
use Rattle.corollaries.proofs.Images.{refutes}
use Rattle.closures.proofs.Closures.{closure_invariants}
use Rattle.io_edge.specs.declared.answer.Status.{Status}
use Rattle.io_edge.specs.declared.answer.Status.TheVariants as status
use Rattle.io_edge.specs.Texts.{Answer}
use Rattle.io_edge.specs.Settled.{IsSettled, IsRefusing}
use Rattle.io_edge.proofs.OfStatuses.{status_of, text_of, settled_yes, settled_no, settled_budget, refusing_fault, refusing_wide}
use Rattle.command_parts.specs.Equations.{polynomial_of, Holds}
use Rattle.command_parts.proofs.Polynomials.{holds_invariant}
use Rattle.replay_commands.specs.CounterHeadline.{IsQuestion}
use Rattle.replay_commands.specs.CounterTexts.{run_text}
use Rattle.replay_commands.proofs.CounterShown.{map_refuses, run_shown, same_question}
use Rattle.closing_commands.specs.declared.evidence.Evidence.{Evidence}
use Rattle.closing_commands.specs.declared.evidence.Evidence.TheVariants as kinds
use Rattle.closing_commands.specs.Deciding.{HasClosed, HasCountered, TellsClosure, TellsCertificate, Tells, TellsRun, TellsStop, TellsExhausted, Decides}
use Rattle.closing_commands.specs.DecideHeadline.{ShowsClosure, ShowsCertificate, Shows, ShowsCounter}

module _ (l : Program (Expr ℕ)) (p : Terms Fraction) (m : Journal) where
  pub tells_yes : (evidence : Evidence) (a : Answer) → Tells l p m evidence a
      → a.status ≡ status.Yes
  tells_yes kinds.Basis a t = status_of t.says
  tells_yes kinds.Certificate a t = t.proof.yes

  pub yes_invariant : (evidence : Evidence) (a : Answer) → Tells l p m evidence a → Inv l p
  yes_invariant kinds.Basis a t = t.invariant
  yes_invariant kinds.Certificate a t = t.invariant

  pub yes_maps : (evidence : Evidence) (a : Answer) → Tells l p m evidence a → AreFree l
  yes_maps kinds.Basis a t = t.maps
  yes_maps kinds.Certificate a t = t.maps

  pub yes_ends : (evidence : Evidence) (a : Answer) → Tells l p m evidence a
      → (gs : List (Terms Fraction)) × HasClosed l p m.entries evidence gs
  yes_ends kinds.Basis a t = (t.list, t.ends)
  yes_ends kinds.Certificate a t = (t.list, t.proof.ends)

  module _ (evidence : Evidence) (n : ℕ) (a : Answer) where
    pub stop_refuses : TellsStop l p m evidence a → IsRefusing a.status
    stop_refuses (inl t) = map_refuses t.stop a t.says
    stop_refuses (inr (inl t)) = refusing_fault a.status (status_of t.says)
    stop_refuses (inr (inr (inl t))) = refusing_wide a.status (status_of t.says)
    stop_refuses (inr (inr (inr t))) = refusing_wide a.status (status_of t.says)

    module _ (d : Decides l p m evidence n a) where
      by_tells : (Q : Type 0) → (Tells l p m evidence a → a.status ≡ status.Yes → Q)
          → (TellsRun l p m a → a.status ≡ status.No → Q)
          → (TellsStop l p m evidence a → IsRefusing a.status → Q)
          → (TellsExhausted l p m evidence n a → a.status ≡ status.Budget → Q) → Q
      by_tells Q closes counters stops spends = elim d.tells [
        | inl t ↦ closes t (tells_yes evidence a t)
        | inr (inl t) ↦ counters t (status_of t.tells.says)
        | inr (inr (inl t)) ↦ stops t (stop_refuses t)
        | inr (inr (inr t)) ↦ spends t (status_of t.says)
      ]

      pub decides_settled : IsSettled a.status
      decides_settled =
          by_tells (IsSettled a.status) (λ t s. settled_yes a.status s)
          (λ t s. settled_no a.status s) (λ t r. r.plain.settled)
          (λ t s. settled_budget a.status s)

      differ : (s t : Status) → a.status ≡ s → a.status ≡ t → s ≡ t
      differ s t e f = sym e ∙ f

      pub told_when_yes : a.status ≡ status.Yes → Tells l p m evidence a
      told_when_yes h =
          by_tells (Tells l p m evidence a) (λ t s. t)
          (λ t s. absurd (let e = differ _ _ s h in let z : ⊥ = cc in z))
          (λ t r. absurd (r.yes_not h))
          (λ t s. absurd (let e = differ _ _ s h in let z : ⊥ = cc in z))

      pub run_when_no : a.status ≡ status.No → TellsRun l p m a
      run_when_no h =
          by_tells (TellsRun l p m a)
          (λ t s. absurd (let e = differ _ _ s h in let z : ⊥ = cc in z)) (λ t s. t)
          (λ t r. absurd (r.no_not h))
          (λ t s. absurd (let e = differ _ _ s h in let z : ⊥ = cc in z))

      pub exhausted_when_budget : a.status ≡ status.Budget → TellsExhausted l p m evidence n a
      exhausted_when_budget h =
          by_tells (TellsExhausted l p m evidence n a)
          (λ t s. absurd (let e = differ _ _ s h in let z : ⊥ = cc in z))
          (λ t s. absurd (let e = differ _ _ s h in let z : ⊥ = cc in z))
          (λ t r. absurd (r.plain.budget_not h)) (λ t s. t)

      pub stop_when_refusing : IsRefusing a.status → TellsStop l p m evidence a
      stop_when_refusing r =
          by_tells (TellsStop l p m evidence a) (λ t s. absurd (r.yes_not s))
          (λ t s. absurd (r.no_not s)) (λ t k. t) (λ t s. absurd (r.plain.budget_not s))

-- ---- what is shown
module _ (text equation : List ℕ) (l : Program (Expr ℕ)) (e : Expr ℕ)
    (is : IsQuestion text equation l e) (m : Journal) (a : Answer) where
  abbrev p : Terms Fraction
  p = polynomial_of l e

  closure_shown : TellsClosure l p m a → ShowsClosure text equation a.text
  unfolding Each
  closure_shown t = record {
    loop = l;
    difference = e;
    question = is;
    holds = (holds_invariant l e).0 t.invariant;
    list = t.list;
    closure = t.closure;
    invariants =
        each_from t.list
        (λ g i. closure_invariants l (p ∷ []) (t.invariant, tt) g
        (t.closure.reduced.members g i));
    reads_back = t.reads_back;
    says = text_of t.says;
  }

  certificate_shown : TellsCertificate l p m a → ShowsCertificate text equation a.text
  certificate_shown t = record {
    loop = l;
    difference = e;
    question = is;
    holds = (holds_invariant l e).0 t.invariant;
    list = t.list;
    closure = t.closure;
    proof = t.proof.shows;
  }

  pub yes_shown : (evidence : Evidence) → Tells l p m evidence a
      → Shows text equation evidence a.text
  yes_shown kinds.Basis t = closure_shown t
  yes_shown kinds.Certificate t = certificate_shown t

  pub counter_shown : TellsRun l p m a → ShowsCounter text equation a.text
  counter_shown t = record {
    most = length t.word;
    run = run_text l.names t.word t.tells.states t.tells.value;
    shows =
        run_shown text equation l e is (length t.word) t.word t.tells.states t.tells.value
        t.is.first
        (omega arith) t.tells.run;
    says = text_of t.tells.says;
  }

-- where a yes is shown of a loop and an equation, it holds
pub holds_shown : (text equation said : List ℕ) (evidence : Evidence)
    → Shows text equation evidence said → (l : Program (Expr ℕ)) (e : Expr ℕ)
    → IsQuestion text equation l e → Holds l e
holds_shown text equation said kinds.Basis s l e q =
    same_question text equation s.loop l s.difference e s.question q s.holds
holds_shown text equation said kinds.Certificate s l e q =
    same_question text equation s.loop l s.difference e s.question q s.holds

pub not_invariant : (l : Program (Expr ℕ)) (e : Expr ℕ) (m : Journal) (w : List ℕ)
    → HasCountered l (polynomial_of l e) m.entries w → Holds l e → ⊥
not_invariant l e m w c h =
    refutes l (polynomial_of l e) w c.first.counters ((holds_invariant l e).1 h)
