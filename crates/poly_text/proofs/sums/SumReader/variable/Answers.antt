-- What is wrong with a name.
use Rattle.std.proofs.Common.{Bool, ◌≡◌, ℕ, ◌<◌, ◌≤◌, List, ap, ◌∙◌, length, true, false, arith, sym, rules, Some, None, Option, nat_le, if◌then◌else◌, option_map}
use Rattle.std.proofs.lemmas.Bool.Decides.{nat_tests}
use Rattle.std.specs.Option.{option_map_or}
use Rattle.loops.specs.Limits.{most_bytes}
use Rattle.loop_model.specs.Names.{place_of}
use Rattle.poly_text.specs.Reasons.{limit, unknown, Reason, Fault}
use Rattle.poly_text.specs.Faults.{reason_of}
use Rattle.poly_text.specs.NameFaults.{has, look, name_fault}
use Rattle.poly_text.proofs.sums.SumReader.variable.Goals as goal

module _ (names : List (List ℕ)) (refused : List ℕ) (why : Reason) (w : List ℕ) where
  refusal-long : 32 < length w → name_fault names refused why w ≡ Some limit
  unfolding most_bytes
  refusal-long long = let no : nat_le (length w) 32 ≡ false = grind (arith, nat_tests) in
      ap (λ b. if b then look names refused why w else Some limit) no

  module _ (short : length w ≤ 32) where
    looks : (o : Option ℕ) → place_of names w ≡ o → name_fault names refused why w ≡ option_map_or
        (λ i. if has refused i then Some why else None) o (Some unknown)
    unfolding most_bytes
    looks o is =
        let yes : nat_le (length w) 32 ≡ true = grind (arith, nat_tests) in
        ap (λ b. if b then look names refused why w else Some limit) yes
        ∙ ap (λ o. option_map_or (λ i. if has refused i then Some why else None) o
        (Some unknown)) is

    looks_among : (i : ℕ) (b : Bool) → place_of names w ≡ Some i → has refused i ≡ b
        → name_fault names refused why w ≡ (if b then Some why else None)
    looks_among i b is e = looks (Some i) is ∙ ap (λ b. if b then Some why else None) e

abbrev fault : ℕ → Reason → Fault
fault at why = record { reason = why; at = at }

pub returns-then-word-gt-MOST_BYTES-clause-err : goal.returns-then-word-gt-MOST_BYTES-clause-err
returns-then-word-gt-MOST_BYTES-clause-err c =
    sym (ap (option_map (fault c.args.at)) (refusal-long c.args.self.now.names.now
    c.args.self.now.refused.now (reason_of c.args.self.now.refusal) c.args.word.now
    (omega arith)))

pub returns-in-None-clause-err : goal.returns-in-None-clause-err
returns-in-None-clause-err c =
    let place : place_of c.args.self.now.names.now c.args.word.now ≡ None = search rules in
    sym (ap (option_map (fault c.args.at)) (looks c.args.self.now.names.now
    c.args.self.now.refused.now (reason_of c.args.self.now.refusal) c.args.word.now
    (omega arith) None place))

pub returns-then-is_refused-clause-err : goal.returns-then-is_refused-clause-err
returns-then-is_refused-clause-err c =
    let place : place_of c.args.self.now.names.now c.args.word.now ≡ Some c.in-Some.index =
    search rules in
    let refused : has c.args.self.now.refused.now c.in-Some.index ≡ true = search rules in
    c.fault.ensures
    ∙ sym (ap (option_map (fault c.args.at)) (looks_among c.args.self.now.names.now
    c.args.self.now.refused.now (reason_of c.args.self.now.refusal) c.args.word.now
    (omega arith) c.in-Some.index true place refused))

pub returns-else-is_refused-clause-free : goal.returns-else-is_refused-clause-free
returns-else-is_refused-clause-free c =
    let place : place_of c.args.self.now.names.now c.args.word.now ≡ Some c.in-Some.index =
    search rules in
    let refused : has c.args.self.now.refused.now c.in-Some.index ≡ false = search rules in
    looks_among c.args.self.now.names.now c.args.self.now.refused.now
    (reason_of c.args.self.now.refusal) c.args.word.now (omega arith) c.in-Some.index false
    place refused
