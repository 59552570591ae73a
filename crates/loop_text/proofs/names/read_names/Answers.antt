use Rattle.std.proofs.Common.{◌≡◌, refl, sym, ap, subst, [], ◌++◌, length, ◌∙◌, List, ℕ, None, arith, append-nil}
use Rattle.loop_model.specs.Names.{place_of}
use Rattle.loop_model.specs.Words.{vars_word}
use Rattle.loop_text.specs.Loops.{declared_fault, declare}
use Rattle.loop_text.specs.States.{IsDeclaration}
use Rattle.loop_text.proofs.Answering.{err_from_is_err_and, sequence, rest, no_first, start, on, ends, stops, stops_last, comma_list, each, next_one, last_one, keyword_read, keyword_barred, declared_name, nothing, keep, keyword, sign, loop_language, with_names}
use Rattle.loop_text.proofs.names.read_names.Goals as goal

-- a variable behind others
variable_new : (names all : List (List ℕ)) → all ≡ names → IsDeclaration names all declared_fault
    declare
    (with_names names []) (λ ns. with_names ns [])
variable_new names all e =
    subst (λ known. IsDeclaration names known declared_fault declare (with_names names [])
    (λ ns. with_names ns [])) (sym e) (record { faults = λ w. refl; goes = λ w. refl })

pub returns-then-not-is_keyword-clause-reads : goal.returns-then-not-is_keyword-clause-reads
returns-then-not-is_keyword-clause-reads c =
    rw c.syntax_fault.ensures
    (no_first loop_language (keyword vars_word) (sequence (comma_list declared_name) (sign 59))
    nothing (rest c.args.cursor) _ (keyword_barred vars_word c.args.cursor (λ c. None)
    (λ c. c) keep nothing (sym c.if-not-is_keyword.ensures)))

pub loop-all-init : goal.loop-all-init
loop-all-init c = record {
  goes = rw c.empty-variables.ensures
      (on (start loop_language _ _ _) (keyword_read vars_word c.args.cursor (λ c. None) (λ c. c)
      keep nothing (sym c.if-not-is_keyword.ensures) refl (rest c.next-at.result)
      c.next-at.ensures.tokens));
  all = c.empty-all.ensures ∙ sym c.empty-variables.ensures;
  few = let none = ap length c.empty-variables.ensures in omega (arith, none);
}

pub read_name-requires-clause-among : goal.read_name-requires-clause-among
read_name-requires-clause-among c = λ w h. subst (λ ns. place_of ns w ≡ None)
    c.loop-all.invariant.all h

pub read_name-requires-clause-few : goal.read_name-requires-clause-few
read_name-requires-clause-few c = let long = ap length c.loop-all.invariant.all in
    omega (arith, long, c.loop-all.invariant.few)

pub returns-in_err-end-clause-reads : goal.returns-in_err-end-clause-reads
returns-in_err-end-clause-reads c = stops (each c.loop-all.invariant.goes) _
    (err_from_is_err_and c.from_residual.result c.from_residual.ensures.1)
    (c.in_err-end.ensures.goes declared_fault declare (with_names c.loop-all.variables [])
    (λ ns. with_names ns []) (variable_new c.loop-all.variables c.loop-all.all
    c.loop-all.invariant.all))

pub returns-in_err-end-2-clause-reads : goal.returns-in_err-end-2-clause-reads
returns-in_err-end-2-clause-reads c =
    let read = c.in_ok-end.ensures.goes declared_fault declare (with_names c.loop-all.variables [])
    (λ ns. with_names ns []) (variable_new c.loop-all.variables c.loop-all.all
    c.loop-all.invariant.all) in
    stops_last (last_one c.loop-all.invariant.goes c.in_ok-end.end read
    (sym c.if-not-is_sign.ensures)) _ (err_from_is_err_and c.from_residual-in_err-end-2.result
    c.from_residual-in_err-end-2.ensures.1)
    (c.in_err-end-2.ensures.goes (λ c. c) keep _)

pub returns-then-not-is_sign-clause-reads : goal.returns-then-not-is_sign-clause-reads
returns-then-not-is_sign-clause-reads c =
    let read = c.in_ok-end.ensures.goes declared_fault declare (with_names c.loop-all.variables [])
    (λ ns. with_names ns []) (variable_new c.loop-all.variables c.loop-all.all
    c.loop-all.invariant.all) in
    ends (last_one c.loop-all.invariant.goes c.in_ok-end.end read (sym c.if-not-is_sign.ensures))
    (c.in_ok-end-2.ensures.goes (λ c. c) keep _)

pub returns-then-not-is_sign-clause-all : goal.returns-then-not-is_sign-clause-all
returns-then-not-is_sign-clause-all c = c.in_ok-end.ensures.all [] c.loop-all.invariant.all
    ∙ sym (append-nil _) ∙ ap (λ ls. c.read_name.new.names ++ ls) (sym c.empty-locals.ensures)

pub loop-all-preserved : goal.loop-all-preserved
loop-all-preserved c = record {
  goes =
      let read = c.in_ok-end.ensures.goes declared_fault declare (with_names c.loop-all.variables
      []) (λ ns. with_names ns []) (variable_new c.loop-all.variables c.loop-all.all
      c.loop-all.invariant.all) in
      next_one c.loop-all.invariant.goes c.in_ok-end.end read (sym c.if-not-is_sign.ensures)
      c.next-at-in-loop-all.result c.next-at-in-loop-all.ensures.tokens;
  all = c.in_ok-end.ensures.all [] c.loop-all.invariant.all;
  few = c.in_ok-end.ensures.few;
}
