use Rattle.std.proofs.Common.{◌≡◌, refl, sym, ap, subst, [], ◌++◌, length, ◌∙◌, List, ℕ, None, arith}
use Rattle.std.proofs.lemmas.List.{length-append}
use Rattle.loop_text.specs.Loops.{local_fault, declare_local, local_name}
use Rattle.loop_model.specs.Names.{place_of}
use Rattle.loop_text.specs.States.{IsDeclaration}
use Rattle.loop_text.proofs.WordReads.{none_behind}
use Rattle.loop_text.proofs.Answering.{GoesOn, Rule, sequence, comma_list, sign, err_from_is_err_and, rest, start, ends, stops, stops_last, each, next_one, last_one, keep, loop_language, with_names}
use Rattle.loop_text.proofs.names.read_local_names.Goals as goal

abbrev named_rule : Rule
named_rule = sequence (comma_list local_name) (sign 59)

-- a local name behind others
local_new : (vs names locals all : List (List ℕ)) → all ≡ names ++ locals → names ≡ vs
    → IsDeclaration locals all local_fault declare_local (with_names vs locals)
    (λ ls. with_names vs ls)
local_new vs names locals all e same =
    subst (λ known. IsDeclaration locals known local_fault declare_local (with_names vs locals)
    (λ ls. with_names vs ls)) (sym (e ∙ ap (λ ns. ns ++ locals) same))
    (record { faults = λ w. refl; goes = λ w. refl })

pub loop-names-init : goal.loop-names-init
loop-names-init c = record {
  goes = subst (λ ls. GoesOn loop_language named_rule (with_names c.args.names.variables [])
      (rest c.args.cursor) named_rule (with_names c.args.names.variables ls) (rest c.args.cursor))
      (sym c.requires.none) (start loop_language _ _ _);
  all = c.requires.all;
  variables = refl;
  few = let none = ap length c.requires.none in omega (arith, none);
}

pub read_name-requires-clause-among : goal.read_name-requires-clause-among
read_name-requires-clause-among c = λ w h. none_behind c.loop-names.names.variables
    c.loop-names.names.locals w (subst (λ ns. place_of ns w ≡ None) c.loop-names.invariant.all h)

pub read_name-requires-clause-few : goal.read_name-requires-clause-few
read_name-requires-clause-few c =
    let long = ap length c.loop-names.invariant.all ∙ length-append c.loop-names.names.variables
    c.loop-names.names.locals in
    let same = ap length c.loop-names.invariant.variables in
    omega (arith, long, same, c.requires.few, c.loop-names.invariant.few)

pub returns-in_err-end-clause-reads : goal.returns-in_err-end-clause-reads
returns-in_err-end-clause-reads c = stops (each c.loop-names.invariant.goes) _
    (err_from_is_err_and c.from_residual.result c.from_residual.ensures.1)
    (c.in_err-end.ensures.goes local_fault declare_local (with_names c.args.names.variables
    c.loop-names.names.locals) (λ ls. with_names c.args.names.variables ls)
    (local_new c.args.names.variables c.loop-names.names.variables c.loop-names.names.locals
    c.loop-names.names.all c.loop-names.invariant.all c.loop-names.invariant.variables))

pub returns-in_err-end-2-clause-reads : goal.returns-in_err-end-2-clause-reads
returns-in_err-end-2-clause-reads c =
    let read = c.in_ok-end.ensures.goes local_fault declare_local (with_names c.args.names.variables
    c.loop-names.names.locals) (λ ls. with_names c.args.names.variables ls)
    (local_new c.args.names.variables c.loop-names.names.variables c.loop-names.names.locals
    c.loop-names.names.all c.loop-names.invariant.all c.loop-names.invariant.variables) in
    stops_last (last_one c.loop-names.invariant.goes c.in_ok-end.end read
    (sym c.if-not-is_sign.ensures)) _ (err_from_is_err_and c.from_residual-in_err-end-2.result
    c.from_residual-in_err-end-2.ensures.1)
    (c.in_err-end-2.ensures.goes (λ c. c) keep _)

pub returns-then-not-is_sign-clause-reads : goal.returns-then-not-is_sign-clause-reads
returns-then-not-is_sign-clause-reads c =
    let read = c.in_ok-end.ensures.goes local_fault declare_local (with_names c.args.names.variables
    c.loop-names.names.locals) (λ ls. with_names c.args.names.variables ls)
    (local_new c.args.names.variables c.loop-names.names.variables c.loop-names.names.locals
    c.loop-names.names.all c.loop-names.invariant.all c.loop-names.invariant.variables) in
    ends (last_one c.loop-names.invariant.goes c.in_ok-end.end read (sym c.if-not-is_sign.ensures))
    (c.in_ok-end-2.ensures.goes (λ c. c) keep _)

pub returns-then-not-is_sign-clause-all : goal.returns-then-not-is_sign-clause-all
returns-then-not-is_sign-clause-all c = c.in_ok-end.ensures.all c.loop-names.names.variables
    c.loop-names.invariant.all

pub loop-names-preserved : goal.loop-names-preserved
loop-names-preserved c = record {
  goes =
      let read = c.in_ok-end.ensures.goes local_fault declare_local
      (with_names c.args.names.variables c.loop-names.names.locals)
      (λ ls. with_names c.args.names.variables ls) (local_new c.args.names.variables
      c.loop-names.names.variables c.loop-names.names.locals c.loop-names.names.all
      c.loop-names.invariant.all c.loop-names.invariant.variables) in
      next_one c.loop-names.invariant.goes c.in_ok-end.end read (sym c.if-not-is_sign.ensures)
      c.next-at.result c.next-at.ensures.tokens;
  all = c.in_ok-end.ensures.all c.loop-names.names.variables c.loop-names.invariant.all;
  variables = c.loop-names.invariant.variables;
  few = c.in_ok-end.ensures.few;
}
