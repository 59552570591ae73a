use Rattle.std.proofs.Common.{ℕ, suc, ◌+◌, ◌≡◌, ◌<◌, ◌≤◌, List, None, length, get_or, ◌∷◌, [], ◌++◌, refl, sym, ap, subst, ◌∙◌, arith, inl, inr}
use Rattle.std.specs.Global.{Vec}
use Rattle.machines.specs.Journal.{Journal}
use Rattle.loops.specs.Program.{Expr, Program, Statement}
use Rattle.poly.specs.Seen.{terms_each}
use Rattle.loop_model.specs.FracPoly.{FracPoly}
use Rattle.ideal_ops.specs.Calls.{AreOver}
use Rattle.rounds.specs.Results.{IsReducedList}
use Rattle.loop_model.specs.View.{program_of}
use Rattle.loops.specs.Chain as spec
use Rattle.loops.specs.Chain.{Chain, no_stage}
use Rattle.loop_runs.specs.Parts.{IsStageOf, stage_of}
use Rattle.loop_runs.specs.ChainSeen.{chain_in}
use Rattle.loop_runs.specs.declared.stage.Stage.{Stage}
use Rattle.invariant_fix.specs.Refusals.{IsRefused}
use Rattle.invariant_fix.specs.declared.errors.AnalyseError.TheVariants as error
use Rattle.invariant_fix.specs.Bases.{empty_journal, AreBases, IsLast, IsRefusedIn}
use Rattle.invariant_fix.specs.Limits.{elements_limit}
use Rattle.invariant_fix.specs.ChainSteps.{HasList, HasStage, IsRefusedStage}
use Rattle.invariant_fix.specs.declared.refused.LoopError.{LoopError}
use Rattle.invariant_fix.specs.declared.refused.LoopError.TheVariants as loop_error
use Rattle.invariant_fix.specs.declared.refused.Refused.{Refused}
use Rattle.invariant_fix.proofs.Loops.{stage_at, count_is, chain_formed, few_places}
use Rattle.invariant_fix.proofs.Adding.{one_bases, one_last, refused_first, before_over, before_few, before_reduced, more_bases, more_last, refused_later, few_enough}
use Rattle.invariant_fix.proofs.chain_bases.analyse_chain.Goals as goal
use Rattle.invariant_fix.proofs.chain_bases.analyse_chain.Goals.{After-deref, After-loop-index}

after : (n : ℕ) → suc n ≡ n + 1
after n = omega arith

pub loop-index-init : goal.loop-index-init
loop-index-init c =
    let k = chain_in c.args.chain.now in
    let items = c.in-Ok-push.ensures.items
    ∙ ap (λ l. l ++ c.in-Ok.basis ∷ []) c.new-bases.ensures.items in
    record {
      bases = one_bases k c.args.budget c.first.ensures _ c.first_basis.ensures.limit
          items c.in-Ok.ensures.ok c.in-Ok.ensures.free c.in-Ok.ensures.forms;
      last = one_last k c.args.budget c.first.ensures _ c.first_basis.ensures.limit
          items c.in-Ok.ensures.ok;
    }

-- want of memory behind a basis
memory_first : (l : Program (Expr ℕ)) (budget : ℕ) (m : Journal) (gs : List FracPoly)
    → HasList l None (length l.names) budget m gs
    → IsRefused l (empty_journal budget) m error.Memory
memory_first l budget m gs h =
    inr (record { state = h.finished.state; follows = h.finished.follows })

memory_later : (p : Program (Expr ℕ)) (s : spec.Stage (Expr ℕ)) (xs : List FracPoly) (budget : ℕ)
    (m : Journal) (gs : List FracPoly) → HasStage p s.code s.branches xs budget m gs
    → IsRefusedStage p s.code s.branches xs budget m (loop_error.Analysis error.Memory)
memory_later p s xs budget m gs h =
    let l = h.done in
    inl (record {
      entries = l.entries;
      list = l.list;
      mapped = l.mapped;
      left = l.left;
      units = l.units;
      limit = l.limit;
      so = inr (record { state = l.so.0.state; follows = l.so.0.follows });
    })

refused_as : (r : Refused) (place : ℕ) (e : LoopError) → r.place ≡ place → r.error ≡ e
    → r ≡ record { place = place; error = e }
refused_as r place e p q = λ i. record { place = p i; error = q i }

pub returns-in_default-clause-refused : goal.returns-in_default-clause-refused
returns-in_default-clause-refused c =
    refused_first (chain_in c.args.chain.now) c.args.budget c.first.ensures _
    c.first_basis.ensures.limit (refused_as c.no_memory.result 0 (loop_error.Analysis error.Memory)
    c.no_memory.ensures.place c.no_memory.ensures.memory)
    (memory_first (program_of c.first.result.now) c.args.budget c.first_basis.new.meter
    c.in-Ok.basis.items c.in-Ok.ensures.ok)

pub returns-in-Err-clause-refused : goal.returns-in-Err-clause-refused
returns-in-Err-clause-refused c =
    refused_first (chain_in c.args.chain.now) c.args.budget c.first.ensures _
    c.first_basis.ensures.limit refl c.in-Err.ensures.err

-- the stage of this index, and the list of the loops before it
module _ (c : After-deref) where
  abbrev chain : Chain (Expr ℕ)
  chain = chain_in c.args.chain.now

  abbrev stages : List Stage
  stages = c.further-further.result.now

  abbrev stage : Stage
  stage = c.index-further-index.result

  abbrev n : ℕ
  n = c.loop-index.index

  abbrev list : List FracPoly
  list = (get_or c.loop-index.bases.items n c.index.result.now).items

  alike : IsStageOf chain.first stage
  alike = subst (IsStageOf chain.first) (sym c.index-further-index.is)
      (c.further-further.ensures.alike n stage c.loop-index-test.true)

  same : stage_of stage ≡ get_or chain.further n no_stage
  same = ap stage_of c.index-further-index.is ∙ stage_at chain stages
      c.further-further.ensures.stages c.further-further.ensures.alike n stage
      c.loop-index-test.true

  inside : n < length chain.further
  inside =
      let e = count_is chain stages c.further-further.ensures.stages
      c.further-further.ensures.alike in
      let l = c.loop-index-test.true in
      omega (arith, e, l)

  borrowed : c.deref.result.now ≡ list
  borrowed = c.deref.ensures.value ∙ ap (λ (v : Vec FracPoly). v.items) c.index.ensures

  names : length (program_of stage.body).names ≡ length chain.first.names
  names = ap length alike.2.0

  -- what is told of the stage, as the chain has it
  abbrev Told : (Program (Expr ℕ) → List (Statement (Expr ℕ)) → List (List (Statement (Expr ℕ)))
      → List FracPoly → Type 0) → Type 0
  Told P = P chain.first (get_or chain.further n no_stage).code
      (get_or chain.further n no_stage).branches list

  told : (P : Program (Expr ℕ) → List (Statement (Expr ℕ)) → List (List (Statement (Expr ℕ)))
      → List FracPoly → Type 0)
      → P chain.first (stage_of stage).code (stage_of stage).branches c.deref.result.now → Told P
  told P h = subst (λ (s : spec.Stage (Expr ℕ)). P chain.first s.code s.branches list) same
      (subst (P chain.first (stage_of stage).code (stage_of stage).branches) borrowed h)

  refused : (m : Journal) (r : Refused) (e : LoopError) → r.place ≡ n + 1 → r.error ≡ e
      → IsRefusedStage chain.first (stage_of stage).code (stage_of stage).branches
      c.deref.result.now c.args.budget m e → IsRefusedIn chain c.args.budget m r
  refused m r e p q h = refused_later chain c.args.budget n c.loop-index.bases.items
      c.loop-index.invariant.bases inside c.index.result.now m r e
      (refused_as r (suc n) e (p ∙ sym (after n)) q)
      (told (λ f code bs xs. IsRefusedStage f code bs xs c.args.budget m e) h)

pub stage_basis-requires-clause-one : goal.stage_basis-requires-clause-one
stage_basis-requires-clause-one c =
    (alike (goal.at.stage_basis-requires-clause-one c).After-deref).1

pub stage_basis-requires-clause-names : goal.stage_basis-requires-clause-names
stage_basis-requires-clause-names c =
    let is = alike (goal.at.stage_basis-requires-clause-names c).After-deref in is.0.0 ∙ sym is.2.0

pub stage_basis-requires-clause-over : goal.stage_basis-requires-clause-over
stage_basis-requires-clause-over c =
    let e = (goal.at.stage_basis-requires-clause-over c).After-deref in
    subst (λ ys. AreOver (length (program_of (stage e).body).names) ys) (sym (borrowed e))
    (subst (λ j. AreOver j (list e)) (sym (names e))
    (before_over (chain e) c.args.budget (n e) c.loop-index.bases.items
    c.loop-index.invariant.bases (inside e) c.index.result.now))

pub stage_basis-requires-clause-reduced : goal.stage_basis-requires-clause-reduced
stage_basis-requires-clause-reduced c =
    let e = (goal.at.stage_basis-requires-clause-reduced c).After-deref in
    subst (λ ys. IsReducedList (length (program_of (stage e).body).names) (terms_each ys))
    (sym (borrowed e))
    (subst (λ j. IsReducedList j (terms_each (list e))) (sym (names e))
    (before_reduced (chain e) c.args.budget (n e) c.loop-index.bases.items
    c.loop-index.invariant.bases (inside e) c.index.result.now
    (chain_formed (chain e) (stages e) c.further-further.ensures.stages
    c.further-further.ensures.alike c.first.result.now c.first.ensures)))

pub stage_basis-requires-clause-few : goal.stage_basis-requires-clause-few
stage_basis-requires-clause-few c =
    let e = (goal.at.stage_basis-requires-clause-few c).After-deref in
    let same_names = names e in
    let twelve = (stage e).body.few_names in
    subst (λ (ys : List FracPoly). length ys ≤ elements_limit) (sym (borrowed e))
    (few_enough (chain e) (n e) c.args.budget _ (omega (arith, same_names, twelve)) (few_places _
    (n e) c.further-further.ensures.few c.loop-index-test.true) c.requires (before_few (chain e)
    c.args.budget (n e) c.loop-index.bases.items c.loop-index.invariant.bases (inside e)
    c.index.result.now))

pub loop-index-preserved : goal.loop-index-preserved
loop-index-preserved c =
    let e = (goal.at.loop-index-preserved c).After-deref in
    let bases = c.loop-index.bases.items in
    let x = c.index.result.now in
    let m = c.stage_basis.new.meter in
    let b = c.in-Ok-stage_basis.basis in
    let more = c.push-in-Ok-stage_basis.new.self.items in
    let h = told e (λ f code bs xs. HasStage f code bs xs c.args.budget m b.items)
    (c.in-Ok-stage_basis.ensures.ok (chain e).first (alike e)) in
    record {
      bases = subst (λ j. AreBases (chain e) c.args.budget (suc j) more) (after (n e))
          (more_bases (chain e) c.args.budget (n e) bases c.loop-index.invariant.bases (inside e)
          x m b more c.in-Ok-push-2.ensures.items h);
      last = subst (λ j. IsLast (chain e) c.args.budget (suc j) m more) (after (n e))
          (more_last (chain e) c.args.budget (n e) bases c.loop-index.invariant.bases (inside e)
          x m b more c.in-Ok-push-2.ensures.items h);
    }

pub returns-in_default-push-clause-refused : goal.returns-in_default-push-clause-refused
returns-in_default-push-clause-refused c =
    let e = (goal.at.returns-in_default-push-clause-refused c).After-deref in
    refused e c.stage_basis.new.meter c.no_memory-in_default-push.result
    (loop_error.Analysis error.Memory) c.no_memory-in_default-push.ensures.place
    c.no_memory-in_default-push.ensures.memory
    (memory_later (chain e).first (stage_of (stage e)) c.deref.result.now c.args.budget
    c.stage_basis.new.meter c.in-Ok-stage_basis.basis.items
    (c.in-Ok-stage_basis.ensures.ok (chain e).first (alike e)))

pub returns-in-Err-stage_basis-clause-refused : goal.returns-in-Err-stage_basis-clause-refused
returns-in-Err-stage_basis-clause-refused c =
    let e = (goal.at.returns-in-Err-stage_basis-clause-refused c).After-deref in
    refused e c.stage_basis.new.meter
    (record { place = c.loop-index.index + 1; error = c.in-Err-stage_basis.error })
    c.in-Err-stage_basis.error refl refl
    (c.in-Err-stage_basis.ensures.err (chain e).first (alike e))

-- all loops
all_stages : (c : After-loop-index) → suc c.loop-index.index
    ≡ suc (length (chain_in c.args.chain.now).further)
all_stages c =
    let e = count_is (chain_in c.args.chain.now) c.further-further.result.now
    c.further-further.ensures.stages c.further-further.ensures.alike in
    let a = c.loop-index-test.false in
    let b = c.loop-index.auto.index-end in
    omega (arith, e, a, b)

pub returns-clause-bases : goal.returns-clause-bases
returns-clause-bases c = subst
    (λ n. AreBases (chain_in c.args.chain.now) c.args.budget n c.loop-index.bases.items)
    (all_stages (goal.at.returns-clause-bases c).After-loop-index) c.loop-index.invariant.bases

pub returns-clause-last : goal.returns-clause-last
returns-clause-last c = subst (λ n. IsLast (chain_in c.args.chain.now) c.args.budget n
    c.loop-index.meter c.loop-index.bases.items)
    (all_stages (goal.at.returns-clause-last c).After-loop-index) c.loop-index.invariant.last
