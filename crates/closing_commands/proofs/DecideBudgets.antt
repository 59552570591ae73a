-- Budgets of a closing and of the divisions behind it.
--   others_same, list_same     the list of a certificate is one
--   enough_closing, enough_tests     where all ends within a budget, neither is out of it
--   enough_end                 so it isn't exhausted
use Rattle.std.proofs.Common.{◌≡◌, ◌⊎◌, inl, inr, ℕ, ◌≤◌, List, [], ◌∷◌, ◌++◌, refl, sym, ap, ap₂, subst, ◌∙◌, arith}
use Rattle.algebra.specs.Fraction.{Fraction}
use Rattle.polynomials.specs.Terms.{Terms}
use Rattle.machines.specs.Journal.{Entry, units_of}
use Rattle.machines.specs.Run.{HasEnded}
use Rattle.loops.specs.Program.{Expr, Program}
use Rattle.rounds.proofs.Prefixes.{units-append}
use Rattle.closures.specs.Certified.{AreOthers, IsListOf}
use Rattle.closures.specs.Closing.{closed, countered, Candidate}
use Rattle.closures.specs.Ends.{ComesNext}
use Rattle.closures.specs.Follows.{IsOut}
use Rattle.closures.specs.Proving.{State, testing, tests, begin, next, FollowsProof, IsOutProof}
use Rattle.closures.proofs.Agrees.{ends_once}
use Rattle.closures.proofs.Budgets.{more_units, enough}
use Rattle.closing_commands.specs.declared.evidence.Evidence.{Evidence}
use Rattle.closing_commands.specs.declared.evidence.Evidence.TheVariants as kinds
use Rattle.closing_commands.specs.ProvedLists.{AreProved, AreExhausted}
use Rattle.closing_commands.specs.Deciding.{HasClosed, HasCountered, IsOutOf}
use Rattle.closing_commands.specs.DecideClauses.{HasEnd}

others_same : (P gs qs rs : List (Terms Fraction)) → AreOthers P gs qs → AreOthers P gs rs
    → qs ≡ rs
unfolding AreOthers
others_same P [] qs rs a b = a ∙ sym b
others_same P (g ∷ gs) [] [] a b = refl
others_same P (g ∷ gs) [] (r ∷ rs) a (inl b) = others_same P gs [] (r ∷ rs) a.1 b.1
others_same P (g ∷ gs) [] (r ∷ rs) a (inr b) = absurd (b.0 a.0)
others_same P (g ∷ gs) (q ∷ qs) [] (inl a) b = others_same P gs (q ∷ qs) [] a.1 b.1
others_same P (g ∷ gs) (q ∷ qs) [] (inr a) b = absurd (a.0 b.0)
others_same P (g ∷ gs) (q ∷ qs) (r ∷ rs) (inl a) (inl b) =
    others_same P gs (q ∷ qs) (r ∷ rs) a.1 b.1
others_same P (g ∷ gs) (q ∷ qs) (r ∷ rs) (inl a) (inr b) = absurd (b.0 a.0)
others_same P (g ∷ gs) (q ∷ qs) (r ∷ rs) (inr a) (inl b) = absurd (a.0 b.0)
others_same P (g ∷ gs) (q ∷ qs) (r ∷ rs) (inr a) (inr b) =
    ap₂ ◌∷◌ (a.1 ∙ sym b.1) (others_same P gs qs rs a.2 b.2)

pub list_same : (P gs bs cs : List (Terms Fraction)) → IsListOf P gs bs → IsListOf P gs cs
    → bs ≡ cs
list_same P gs bs cs b c =
    b.is ∙ ap (λ qs. P ++ qs) (others_same P gs b.others c.others b.are c.are) ∙ sym c.is

module _ (l : Program (Expr ℕ)) (p : Terms Fraction) where
  abbrev P : List (Terms Fraction)
  P = p ∷ []

  -- the units of the closing are some of all
  before_few : (gs bs : List (Terms Fraction)) (es : List Entry) (s : State) (n : ℕ)
      (f : FollowsProof l P gs bs es s) → units_of es ≤ n → units_of f.before ≤ n
  before_few gs bs es s n f few =
      omega (arith, few, ap units_of f.order, units-append f.before f.behind)

  out_not : (gs bs : List (Terms Fraction)) (es fs : List Entry) (s : State) (n : ℕ)
      → FollowsProof l P gs bs es s → HasEnded (next l gs) s → units_of es ≤ n
      → IsOutProof l P gs bs n fs → ⊥
  out_not gs bs es fs s n f ended few o =
      let one = ends_once l P f.before o.follows.before (closed gs) (closed gs) refl refl f.closes
      o.follows.closes in
      let less = more_units (next l gs) (testing (tests l bs)) s o.state o.following f.behind
      o.follows.behind o.entry f.run ended o.follows.run o.comes o.unit in
      omega (
        arith,
        less,
        few,
        o.exhausted,
        ap units_of f.order,
        ap units_of o.follows.order,
        units-append f.before f.behind,
        units-append o.follows.before o.follows.behind,
        ap units_of one.0,
      )

  closings_same : (es fs : List Entry) (gs hs : List (Terms Fraction))
      → ComesNext l P es (closed gs) → ComesNext l P fs (closed hs) → gs ≡ hs
  closings_same es fs gs hs c d =
      let one = ends_once l P es fs (closed gs) (closed hs) refl refl c d in
      let same : closed gs ≡ closed hs = one.1 in
      cc

  not_both : (es fs : List Entry) (gs : List (Terms Fraction)) (x : Candidate)
      (i : Terms Fraction) → ComesNext l P es (closed gs) → ComesNext l P fs (countered x i) → ⊥
  not_both es fs gs x i c d =
      let one = ends_once l P es fs (closed gs) (countered x i) refl refl c d in
      let same : closed gs ≡ countered x i = one.1 in
      let f : ⊥ = cc in
      f

  enough_tests : (es fs : List Entry) (n : ℕ) (gs hs : List (Terms Fraction))
      → AreProved l P es gs → units_of es ≤ n → AreExhausted l P fs hs n → ⊥
  unfolding begin
  enough_tests es fs n gs hs a few s =
      let same = closings_same a.over.follows.before s.out.follows.before gs hs
      a.over.follows.closes
      s.out.follows.closes in
      let t = subst (λ x. AreExhausted l P fs x n) (sym same) s in
      out_not gs a.elements es fs a.over.state n a.over.follows a.over.is few
      (subst (λ x. IsOutProof l P gs x n fs) (list_same P gs t.elements a.elements t.listed
      a.listed) t.out)

  pub enough_end : (evidence : Evidence) (n : ℕ) (fs : List Entry) → HasEnd l p evidence n
      → IsOutOf l p fs evidence n → ⊥
  enough_end kinds.Basis n fs h o = go h.ends
    where
      go : ((gs : List (Terms Fraction)) × HasClosed l p h.entries kinds.Basis gs)
          ⊎ ((w : List ℕ) × HasCountered l p h.entries w) → ⊥
      go (inl (gs, c)) = enough l P h.entries fs (closed gs) n refl c h.few o
      go (inr (w, c)) = enough l P h.entries fs (countered c.candidate c.image) n refl c.ends h.few
          o
  enough_end kinds.Certificate n fs h o = go h.ends o
    where
      go : ((gs : List (Terms Fraction)) × HasClosed l p h.entries kinds.Certificate gs)
          ⊎ ((w : List ℕ) × HasCountered l p h.entries w)
          → IsOut l P n fs ⊎ ((gs : List (Terms Fraction)) × AreExhausted l P fs gs n) → ⊥
      go (inl (gs, a)) (inl out) =
          enough l P a.over.follows.before fs (closed gs) n refl a.over.follows.closes
          (before_few gs a.elements h.entries a.over.state n a.over.follows h.few) out
      go (inl (gs, a)) (inr (hs, s)) = enough_tests h.entries fs n gs hs a h.few s
      go (inr (w, c)) (inl out) =
          enough l P h.entries fs (countered c.candidate c.image) n refl c.ends h.few out
      go (inr (w, c)) (inr (hs, s)) =
          not_both s.out.follows.before h.entries hs c.candidate c.image s.out.follows.closes c.ends
