use Rattle.std.proofs.Common.{◌≡◌, ℕ, suc, List, [], ◌++◌, length, sym, refl, ap, subst, ◌∙◌, Ok}
use Rattle.std.proofs.lemmas.Result.{err_from_is_err_and}
use Rattle.loops.specs.WellFormed.{local_places}
use Rattle.grammars.specs.Grammar.{sequence, optional}
use Rattle.poly_text.specs.CursorView.{rest, behind}
use Rattle.poly_text.specs.Faults.{fault_of}
use Rattle.poly_text.specs.Lexemes.{Placed}
use Rattle.poly_text.proofs.CursorReads.{here}
use Rattle.poly_text.proofs.Paths.{GoesOn, on, ends, stops}
use Rattle.loop_text.specs.Loops as loops
use Rattle.loop_text.specs.Loops.{LoopState}
use Rattle.loop_text.specs.States.{Inits, Before, between, in_branches}
use Rattle.loop_text.specs.declared.begun.Begun.{Begun}
use Rattle.loop_text.specs.declared.names.LoopNames.{LoopNames}
use Rattle.loop_runs.specs.Parts.{statements_in}
use Rattle.loop_text.specs.Chains.{Earlier, ChainState, begin_code, with_code, code, code_end, chain_language}
use Rattle.loop_text.specs.Raising.{in_chain, told_in_chain}
use Rattle.loop_text.proofs.ChainReads.{no_code, do_other, do_goes, code_taken}
use Rattle.loop_text.proofs.Raised.{up}
use Rattle.loop_text.proofs.RaisedReading.{reading_raised, fault_raised}
use Rattle.loop_text.proofs.chain_reading.read_code.Goals as goal

abbrev before : LoopNames → Inits → Before
before ns init = record {
  names = ns.variables;
  locals = ns.locals;
  init = init;
  branches = [];
  statements = [];
}

-- where code begins, as a branch does
abbrev opened : LoopNames → Begun → Inits → LoopState
opened ns b init =
    between ns.all (local_places (length ns.variables) (length ns.locals)) b (before ns init)

same_opened : (ns : LoopNames) (b d : Begun) (init : Inits) (n : ℕ) (e : Earlier)
    → ns.all ≡ ns.variables ++ ns.locals → b.branches ≡ 0 → d ≡ record b { branches = 1 }
    → let s = in_chain n e (in_branches ns.variables ns.locals b init []) in
    record { context = begin_code s.context; value = s.value } ≡ in_chain n e (opened ns d init)
same_opened ns b d init n e all none is =
    ap (λ k. state ns.variables ns.locals (ns.variables ++ ns.locals) b.statements (suc k)) none
    ∙ ap (λ names. state ns.variables ns.locals names b.statements 1) (sym all)
    ∙ ap (λ (d : Begun). state ns.variables ns.locals ns.all d.statements d.branches) (sym is)
  where
    state : (vs ls names : List (List ℕ)) → ℕ → ℕ → ChainState
    state vs ls names k j =
        in_chain n e (between names (local_places (length vs) (length ls))
        (record { statements = k; branches = j })
        (record { names = vs; locals = ls; init = init; branches = []; statements = [] }))

pub returns-in_default-clause-reads : goal.returns-in_default-clause-reads
returns-in_default-clause-reads c = λ init n e h.
    let s = in_chain n e (in_branches c.args.names.now.variables c.args.names.now.locals
    c.args.begun.now init []) in
    ap (λ ss. Ok (
      in_chain n (with_code e ss) (in_branches c.args.names.now.variables
          c.args.names.now.locals c.args.begun.now init []),
      rest c.args.cursor,
    ))
    (ap statements_in c.new.ensures.items ∙ sym h)
    ∙ no_code s c.args.cursor c.in_default.not-Name

pub returns-then-not-is_do-clause-reads : goal.returns-then-not-is_do-clause-reads
returns-then-not-is_do-clause-reads c = λ init n e h.
    let s = in_chain n e (in_branches c.args.names.now.variables c.args.names.now.locals
    c.args.begun.now init []) in
    rw c.syntax_fault.ensures (do_other s c.args.cursor c.in-Name.word c.in-Name.is
    (sym c.if-not-is_do.ensures))

-- behind `do`
module _ (ns : LoopNames) (b d : Begun) (init : Inits) (n : ℕ) (e : Earlier) (all : ns.all
    ≡ ns.variables ++ ns.locals) (none : b.branches ≡ 0) (is : d ≡ record b { branches = 1 })
    (ts us : List Placed) where
  abbrev from : ChainState
  from = in_chain n e (in_branches ns.variables ns.locals b init [])

  begun : GoesOn chain_language (optional code) from ts (sequence (up loops.block) code_end)
      (record { context = begin_code from.context; value = from.value }) us
      → GoesOn chain_language (optional code) (in_chain n e (in_branches ns.variables ns.locals b
      init [])) ts (sequence (up loops.block) code_end) (in_chain n e (opened ns d init)) us
  begun path = subst (λ s. GoesOn chain_language (optional code) from ts
      (sequence (up loops.block) code_end) s us) (same_opened ns b d init n e all none is) path

pub returns-in_err-code-clause-reads : goal.returns-in_err-code-clause-reads
returns-in_err-code-clause-reads c = λ init n e h.
    let ns = c.args.names.now in
    let s = in_chain n e (in_branches ns.variables ns.locals c.args.begun.now init []) in
    let d = record c.args.begun.now { branches = 1 } in
    stops (begun ns c.args.begun.now d init n e c.requires.all c.requires.none refl
    (rest c.args.cursor) (rest c.next.result)
    (do_goes s c.args.cursor c.in-Name.word c.in-Name.is (sym c.if-not-is_do.ensures)
    c.next.result c.next.ensures.tokens)) _
    (err_from_is_err_and c.from_residual.result c.from_residual.ensures.1)
    (fault_raised n e loops.block (opened ns d init) (rest c.next.result)
    (fault_of c.in_err-code.field-0.0) (c.in_err-code.ensures.reads (before ns init) refl refl))

pub returns-clause-reads : goal.returns-clause-reads
returns-clause-reads c = λ init n e h.
    let ns = c.args.names.now in
    let s = in_chain n e (in_branches ns.variables ns.locals c.args.begun.now init []) in
    let d = record c.args.begun.now { branches = 1 } in
    let k = c.in_ok-code.end in
    ends (on (begun ns c.args.begun.now d init n e c.requires.all c.requires.none refl
    (rest c.args.cursor) (rest c.next.result)
    (do_goes s c.args.cursor c.in-Name.word c.in-Name.is (sym c.if-not-is_do.ensures)
    c.next.result c.next.ensures.tokens))
    (ap (told_in_chain n e) (c.in_ok-code.ensures.reads (before ns init) refl refl)
    ∙ sym (reading_raised n e loops.block (opened ns d init) (rest c.next.result))))
    (code_taken _ (here k) (behind k))
