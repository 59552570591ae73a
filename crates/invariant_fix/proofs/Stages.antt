-- A further loop behind its code.
--   plain_has, plain_refused        where there is no code
--   first_unformed, then_unformed   a refusal of the code's map, and one of the loop's maps and branches behind it;  no_memory: want of memory before there is an entry
--   both_free                       where there is none
--   stage_has, stage_refused        where the code has a statement, and its elimination has ended
--   stage_wide, stage_exhausted, stage_wanting     where it hasn't
use Rattle.std.proofs.Common.{◌≡◌, ◌≢◌, ◌⊎◌, inl, inr, ℕ, zero, suc, ◌+◌, ◌≤◌, List, [], ◌∷◌, length, refl, sym, ap, subst, ◌∙◌, arith, Some, None, Vec, Global}
use Rattle.std.proofs.lemmas.List.Elements.{All-append}
use Rattle.algebra.specs.Fraction.{Fraction}
use Rattle.polynomials.specs.Terms.{Terms}
use Rattle.machines.specs.Journal.{Journal, units_of}
use Rattle.machines.specs.Elimination as elimination
use Rattle.machines.specs.Machine.{Machine, Outcome, Ran, done, stopped, too_wide, out_of_units, out_of_memory}
use Rattle.machines.specs.Work.{WorkFrom, WorkToEnd, IsExhausted, PastAfter}
use Rattle.loops.specs.Program.{Expr, Program, Statement}
use Rattle.poly.specs.Seen.{terms_each}
use Rattle.loop_model.specs.FracPoly.{FracPoly}
use Rattle.loop_model.specs.Operations.{Operation, PassesLimit, IsFree}
use Rattle.loop_model.specs.Stops.{Stops}
use Rattle.loop_model.specs.declared.map_error.MapError.{MapError}
use Rattle.loop_model.specs.declared.map_error.MapError.TheVariants as map_error
use Rattle.loop_model.proofs.OperationLaws.{stops_front, stops_behind}
use Rattle.rounds.specs.Journal.{IsOutFrom}
use Rattle.corollaries.specs.Between.{between, Leads, IsMapped, IsExhaustedLeading, IsPastLeading, HasMapped}
use Rattle.loops.specs.Chain.{loop_of}
use Rattle.corollaries.specs.CodeBetween.{assigned_from, copies}
use Rattle.loop_model.specs.Maps.{maps_operations, AreFree}
use Rattle.invariant_fix.specs.Refusals.{AllHaveForms, analysis_error_of, IfUnformedLoop, IsStoppedFrom, IsRefusedFrom}
use Rattle.invariant_fix.specs.declared.errors.AnalyseError.{AnalyseError}
use Rattle.invariant_fix.specs.declared.errors.AnalyseError.TheVariants as error
use Rattle.invariant_fix.specs.Bases.{empty_journal, code_operations}
use Rattle.invariant_fix.specs.Code.{IsListOf}
use Rattle.invariant_fix.specs.ChainSteps.{HasList, MappedFrom, HasStage, IsRefusedStage, IsFormedStage}
use Rattle.invariant_fix.specs.declared.refused.LoopError.TheVariants as loop_error

-- ---- where there is no code
module _ (p : Program (Expr ℕ)) (bs : List (List (Statement (Expr ℕ)))) (xs : List FracPoly)
    {budget : ℕ} (m : Journal) (limit : m.limit ≡ budget) where
  no_code_mapped : (P : ℕ → List (Terms Fraction) → Type 0) → P budget (terms_each xs)
      → MappedFrom p [] bs xs budget m P
  unfolding units_of
  no_code_mapped P so = record {
    entries = [];
    list = terms_each xs;
    mapped = (refl, refl);
    left = budget;
    units = omega arith;
    limit = limit;
    so = so;
  }

  no_copies : (n : ℕ) → copies {E = Expr ℕ} n [] ≡ 0
  no_copies n = go 0 n
    where
      go : (i n : ℕ) → length (assigned_from {E = Expr ℕ} [] i n) ≡ 0
      go i zero = refl
      go i (suc n) = go (suc i) n

  has_without : AreFree (loop_of p bs) → AllHaveForms (loop_of p bs) → (gs : List FracPoly)
      → HasList (loop_of p bs) (Some (terms_each xs)) (length xs) budget m gs
      → HasStage p [] bs xs budget m gs
  has_without free forms gs h = record {
    formed = (free, forms);
    rounds = h.rounds;
    done = no_code_mapped _ (h.finished, h.units);
    over = h.over;
    few = let f = h.few in let e = no_copies (length p.names) in omega (arith, f, e);
  }

  refused_without : (e : AnalyseError)
      → IsRefusedFrom (loop_of p bs) (Some (terms_each xs)) (empty_journal budget) m e
      → IsRefusedStage p [] bs xs budget m (loop_error.Analysis e)
  refused_without (error.Map e) r = r
  refused_without (error.Branch b e) r = r
  refused_without (error.Limit task) r = ((r.0, r.1), no_code_mapped _ r.2)
  refused_without (error.Wide task) r = ((r.0, r.1), no_code_mapped _ r.2)
  refused_without error.Budget r = (
    (r.0, r.1),
    inl (no_code_mapped _ (subst (λ n. IsOutFrom (loop_of p bs) (Some (terms_each xs)) None n
        m.entries) limit r.2)),
  )
  refused_without error.Memory r = inl (no_code_mapped _ r)

  module _ {code : List (Statement (Expr ℕ))} (none : code ≡ []) where
    pub plain_has : AreFree (loop_of p bs) → AllHaveForms (loop_of p bs) → (gs : List FracPoly)
        → HasList (loop_of p bs) (Some (terms_each xs)) (length xs) budget m gs
        → HasStage p code bs xs budget m gs
    plain_has free forms gs h =
        subst (λ c. HasStage p c bs xs budget m gs) (sym none) (has_without free forms gs h)

    pub plain_refused : (e : AnalyseError)
        → IsRefusedFrom (loop_of p bs) (Some (terms_each xs)) (empty_journal budget) m e
        → IsRefusedStage p code bs xs budget m (loop_error.Analysis e)
    plain_refused e r = subst (λ c. IsRefusedStage p c bs xs budget m (loop_error.Analysis e))
        (sym none) (refused_without e r)

-- ---- refusals of maps and branches
module _ (p : Program (Expr ℕ)) (code : List (Statement (Expr ℕ)))
    (bs : List (List (Statement (Expr ℕ)))) (xs : List FracPoly) (budget : ℕ) {m : Journal}
    (begun : m ≡ empty_journal budget) where
  abbrev size : ℕ
  size = length p.names

  abbrev these : List Operation
  these = code_operations p code

  abbrev those : List Operation
  those = maps_operations (loop_of p bs)

  pub no_memory : IsRefusedStage p code bs xs budget m (loop_error.Analysis error.Memory)
  no_memory = inr (ap (λ (j : Journal). j.limit) begun, inl (ap (λ (j : Journal). j.entries) begun))

  -- of the code's map
  pub first_unformed : (e : MapError) → Stops size these e
      → IsRefusedStage p code bs xs budget m (loop_error.Analysis (analysis_error_of e))
  first_unformed (map_error.Limit at) h =
      (begun, ((λ q. (let z : ⊥ = cc in z)), stops_front size these those (map_error.Limit at) h))
  first_unformed (map_error.Wide at) h =
      (begun, ((λ q. (let z : ⊥ = cc in z)), stops_front size these those (map_error.Wide at) h))
  first_unformed map_error.Memory h = no_memory

  -- and, where the code passes no limit, of the loop
  pub then_unformed : IsFree size these → (e : AnalyseError) → IfUnformedLoop (loop_of p bs) e
      → IsRefusedStage p code bs xs budget m (loop_error.Analysis e)
  then_unformed free (error.Map e) h = (begun, (h.0, stops_behind size these those e free h.1))
  then_unformed free (error.Branch b e) h =
      (begun, (All-append (λ o. ¬ (PassesLimit size o)) these those free h.0, h.1))
  then_unformed free (error.Limit task) h = absurd h
  then_unformed free (error.Wide task) h = absurd h
  then_unformed free error.Budget h = absurd h
  then_unformed free error.Memory h = no_memory

pub both_free : (p : Program (Expr ℕ)) (code : List (Statement (Expr ℕ)))
    (bs : List (List (Statement (Expr ℕ)))) (xs : List FracPoly) (budget : ℕ) (m : Journal)
    → IsFree (length p.names) (code_operations p code) → AreFree (loop_of p bs)
    → AllHaveForms (loop_of p bs) → IsFormedStage p code bs xs budget m
both_free p code bs xs budget m free more forms = (
  All-append (λ o. ¬ (PassesLimit (length p.names) o)) (code_operations p code) _ free more,
  forms,
)

-- ---- where there is code
some_code : {S : Type 0} (P : List S → Type 0) → ((a : S) (cs : List S) → P (a ∷ cs))
    → (code : List S) → code ≢ [] → P code
some_code P h [] some = absurd (some refl)
some_code P h (a ∷ cs) some = h a cs

module _ (p : Program (Expr ℕ)) (bs : List (List (Statement (Expr ℕ)))) (xs : List FracPoly)
    (budget : ℕ) {start : Journal} (begun : start ≡ empty_journal budget)
    (code : List (Statement (Expr ℕ))) (some : code ≢ []) where
  abbrev Formed : Journal → Type 0
  Formed m = IsFormedStage p code bs xs budget m

  abbrev M : Machine (elimination.State Fraction)
  M = between p code (terms_each xs)

  abbrev pub CodeRuns : Journal → Outcome (Vec FracPoly Global) → Type 0
  CodeRuns m o = Ran M (IsListOf (length p.names) code) start m o

  limit_is : start.limit ≡ budget
  limit_is = ap (λ (j : Journal). j.limit) begun

  none_yet : start.entries ≡ []
  none_yet = ap (λ (j : Journal). j.entries) begun

  -- the elimination has ended with these, and so many units are left
  module _ (mid : Journal) (ks : List FracPoly) (v : Vec FracPoly Global) (vs : v.items ≡ ks)
      (ran : CodeRuns mid (done v)) (left : ℕ) (units : units_of mid.entries + left ≡ budget)
      (m : Journal) (limit : m.limit ≡ left) (formed : Formed m) where
    leads : Leads p code (terms_each xs) mid.entries (terms_each ks)
    leads = record {
      last = ran.to.last;
      finished = subst (λ es. WorkToEnd M.next M.start es mid.entries ran.to.last) none_yet
          ran.to.finished;
      list = ap terms_each (sym vs) ∙ ran.to.gives;
    }

    code_mapped : (P : ℕ → List (Terms Fraction) → Type 0) → P left (terms_each ks)
        → MappedFrom p code bs xs budget m P
    code_mapped P so = record {
      entries = mid.entries;
      list = terms_each ks;
      mapped = some_code (λ code. Leads p code (terms_each xs) mid.entries (terms_each ks)
          → IsMapped p code (terms_each xs) mid.entries (terms_each ks)) (λ a cs h. h) code some
          leads;
      left = left;
      units = units;
      limit = limit;
      so = so;
    }

    pub stage_has : length ks ≤ length xs + copies (length p.names) code + units_of mid.entries
        → {gs : List FracPoly} → HasList (loop_of p bs) (Some (terms_each ks)) (length ks) left m gs
        → HasStage p code bs xs budget m gs
    stage_has few h = record {
      formed = formed;
      rounds = h.rounds;
      done = code_mapped _ (h.finished, h.units);
      over = h.over;
      few = let f = h.few in omega (arith, f, few, units);
    }

    pub stage_refused : (e : AnalyseError) → IsStoppedFrom (loop_of p bs) (Some (terms_each ks)) m e
        → IsRefusedStage p code bs xs budget m (loop_error.Analysis e)
    stage_refused (error.Map e) r = absurd r
    stage_refused (error.Branch b e) r = absurd r
    stage_refused (error.Limit task) r = (formed, code_mapped _ r)
    stage_refused (error.Wide task) r = (formed, code_mapped _ r)
    stage_refused error.Budget r = (
      formed,
      inl (code_mapped _ (subst (λ n. IsOutFrom (loop_of p bs) (Some (terms_each ks)) None n
          m.entries) limit r)),
    )
    stage_refused error.Memory r = inl (code_mapped _ r)

  -- it hasn't
  pub stage_wide : (m : Journal) → Formed m → CodeRuns m (stopped too_wide)
      → IsRefusedStage p code bs xs budget m loop_error.Between
  stage_wide m formed r = (
    formed,
    (
      r.limit ∙ limit_is,
      some_code (λ code.
          let N = between p code (terms_each xs) in
          PastAfter N.next N.IsPastNext N.start [] m.entries ⊎ ((m.entries ≡ []) × N.IsPastStart)
          → IsPastLeading p code (terms_each xs) m.entries) (λ a cs h. h) code some (elim r.to [
            | inl q ↦ inl (subst (λ es. PastAfter M.next M.IsPastNext M.start es m.entries)
                none_yet q)
            | inr q ↦ inr (ap (λ (j : Journal). j.entries) q.0 ∙ none_yet, q.1)
          ]),
    ),
  )

  pub stage_exhausted : (m : Journal) → Formed m → CodeRuns m (stopped out_of_units)
      → IsRefusedStage p code bs xs budget m (loop_error.Analysis error.Budget)
  stage_exhausted m formed r = (
    formed,
    inr (
      r.limit ∙ limit_is,
      some_code (λ code. let N = between p code (terms_each xs) in
          IsExhausted N.next N.start budget [] m.entries
          → IsExhaustedLeading p code (terms_each xs) budget m.entries) (λ a cs h. h) code some
          (subst (λ n. IsExhausted M.next M.start n [] m.entries) (r.limit ∙ limit_is)
          (subst (λ es. IsExhausted M.next M.start m.limit es m.entries) none_yet r.to)),
    ),
  )

  pub stage_wanting : (m : Journal) → CodeRuns m (stopped out_of_memory)
      → IsRefusedStage p code bs xs budget m (loop_error.Analysis error.Memory)
  stage_wanting m r = inr (
    r.limit ∙ limit_is,
    inr (some_code (λ code. let N = between p code (terms_each xs) in
        WorkFrom N.next N.start [] m.entries → HasMapped p code (terms_each xs) m.entries)
        (λ a cs h. h) code some (subst (λ es. WorkFrom M.next M.start es m.entries) none_yet r.to)),
  )
