-- A stage, as code has it: its code as a loop of one branch, and its loop.
--   no_code, has_code        whether its code has a statement
--   code_free, code_stops    the operations by which its code's map is formed
--   loop_free, loop_forms    those of its loop, and its closed forms
--   leading_at               the elimination of its code;  mapped_list, units_left: where it has ended
use Rattle.std.proofs.Common.{◌≡◌, ◌≢◌, ◌+◌, ◌-◌, ◌≤◌, ℕ, List, [], ◌∷◌, length, vec_len, refl, sym, ap, subst, ◌∙◌, arith}
use Rattle.std.specs.Global.{Vec}
use Rattle.std.proofs.lemmas.Bool.{eqb-true, eqb-false}
use Rattle.std.proofs.lemmas.List.{nil_from_length, length-map}
use Rattle.std.proofs.lemmas.List.Elements.{All-nil}
use Rattle.std.specs.Prelude.{eqb, true, false}
use Rattle.machines.specs.Journal.{Journal, units_of}
use Rattle.machines.specs.Machine.{Outcome, Ran, done}
use Rattle.machines.specs.Work.{WorkToEnd}
use Rattle.loops.specs.Map.{branch_map}
use Rattle.loops.specs.Program.{Expr, Program, Statement}
use Rattle.poly.specs.Seen.{terms_each}
use Rattle.poly.proofs.Standing.{arities_over}
use Rattle.ideal_ops.specs.Calls.{AreOver}
use Rattle.rounds.specs.Results.{IsReducedList}
use Rattle.loop_model.specs.FracPoly.{FracPoly}
use Rattle.loop_model.specs.Operations.{PassesLimit, IsFree}
use Rattle.loop_model.specs.Stops.{Stops}
use Rattle.loop_model.specs.declared.map_error.MapError.{MapError}
use Rattle.loop_model.specs.Maps.{branch_operations, AreFree}
use Rattle.loop_model.specs.Parts.{statement_of}
use Rattle.loop_model.specs.View.{program_of}
use Rattle.loop_model.specs.declared.statement.Statement as code
use Rattle.corollaries.specs.Between.{between}
use Rattle.loops.specs.Chain.{loop_of}
use Rattle.corollaries.proofs.Mapped.{code_reduced}
use Rattle.loop_runs.specs.Parts.{IsStageOf, statements_in, code_in, stage_of}
use Rattle.loop_runs.specs.declared.stage.Stage.{Stage}
use Rattle.invariant_fix.specs.Refusals.{AllHaveForms}
use Rattle.invariant_fix.specs.Bases.{empty_journal, code_operations}
use Rattle.invariant_fix.specs.Code.{IsListOf}
use Rattle.invariant_fix.proofs.Loops.{body_is, once_is}

-- whether a list of statements is empty
pub no_code : (b : Vec code.Statement) {c : List (Statement (Expr ℕ))} → statements_in b.items ≡ c
    → true ≡ eqb (vec_len b) 0 → c ≡ []
no_code b same t =
    let e = eqb-true (vec_len b) 0 (sym t) in
    let ok = b.ok in
    sym same ∙ ap statements_in (nil_from_length b.items (omega (arith, e, ok)))

pub has_code : (b : Vec code.Statement) {c : List (Statement (Expr ℕ))} → statements_in b.items ≡ c
    → false ≡ eqb (vec_len b) 0 → c ≢ []
has_code b same t none =
    let n = sym (length-map b.items statement_of) ∙ ap length (same ∙ none) in
    let ok = b.ok in
    eqb-false (vec_len b) 0 (sym t) (omega (arith, n, ok))

module _ (p : Program (Expr ℕ)) (g : Stage) (is : IsStageOf p g) where
  pub code_free : IsFree (length (program_of g.code).names)
      (branch_operations (program_of g.code) (code_in g.code))
      → IsFree (length p.names) (code_operations p (code_in g.code))
  code_free h = go (code_in g.code) (subst (λ (q : Program (Expr ℕ)). IsFree (length q.names)
      (branch_operations q (code_in g.code))) (once_is p g is) h)
    where
      go : (c : List (Statement (Expr ℕ))) → IsFree (length p.names) (branch_operations p c)
          → IsFree (length p.names) (code_operations p c)
      go [] h = All-nil (λ o. ¬ (PassesLimit (length p.names) o))
      go (a ∷ c) h = h

  pub code_stops : code_in g.code ≢ [] → (e : MapError) → Stops (length (program_of g.code).names)
      (branch_operations (program_of g.code) (code_in g.code)) e
      → Stops (length p.names) (code_operations p (code_in g.code)) e
  code_stops some e h = go (code_in g.code) some (subst (λ (q : Program (Expr ℕ)).
      Stops (length q.names) (branch_operations q (code_in g.code)) e) (once_is p g is) h)
    where
      go : (c : List (Statement (Expr ℕ))) → c ≢ []
          → Stops (length p.names) (branch_operations p c) e
          → Stops (length p.names) (code_operations p c) e
      go [] some h = absurd (some refl)
      go (a ∷ c) some h = h

  pub loop_free : AreFree (program_of g.body) → AreFree (loop_of p (stage_of g).branches)
  loop_free h = subst AreFree (body_is p g is) h

  pub loop_forms : AllHaveForms (program_of g.body) → AllHaveForms (loop_of p (stage_of g).branches)
  loop_forms h = subst AllHaveForms (body_is p g is) h

  pub leading_at : (xs : List FracPoly) (start m : Journal) (o : Outcome (Vec FracPoly))
      → Ran (between (program_of g.code) (code_in g.code) (terms_each xs))
      (IsListOf (length (program_of g.code).names) (code_in g.code)) start m o
      → Ran (between p (code_in g.code) (terms_each xs))
      (IsListOf (length p.names) (code_in g.code)) start m o
  unfolding branch_map
  leading_at xs start m o r = subst (λ (q : Program (Expr ℕ)).
      Ran (between q (code_in g.code) (terms_each xs)) (IsListOf (length q.names) (code_in g.code))
      start m o) (once_is p g is) r

-- what the elimination has ended with
pub mapped_list : (p : Program (Expr ℕ)) (c : List (Statement (Expr ℕ))) (xs : List FracPoly)
    → AreOver (length p.names) xs → (budget : ℕ) (start m : Journal) → start ≡ empty_journal budget
    → (v : Vec FracPoly) → Ran (between p c (terms_each xs)) (IsListOf (length p.names) c) start m
    (done v) → IsReducedList (length p.names) (terms_each v.items)
mapped_list p c xs over budget start m begun v r =
    code_reduced p c (terms_each xs) (arities_over (length p.names) xs over) m.entries
    (terms_each v.items) (record {
      last = r.to.last;
      finished = subst (λ es. WorkToEnd (between p c (terms_each xs)).next
          (between p c (terms_each xs)).start es m.entries r.to.last)
          (ap (λ (j : Journal). j.entries) begun) r.to.finished;
      list = r.to.gives;
    })

-- how many units it has left
pub units_left : {start : Journal} (m : Journal) (budget : ℕ) {left : ℕ}
    → start ≡ empty_journal budget → m.limit ≡ start.limit → units_of m.entries ≤ m.limit
    → left ≡ m.limit - units_of m.entries → units_of m.entries + left ≡ budget
units_left m budget begun same within rest =
    let e = ap (λ (j : Journal). j.limit) begun in omega (arith, e, same, within, rest)
