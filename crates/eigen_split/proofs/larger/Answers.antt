use Rattle.std.proofs.Common.{List, ◌≡◌, ◌<◌, ◌≤◌, ap, length, rules, subst, sym, ◌∙◌, Vec, Global}
use mir.Syntax.{w128}
use Rattle.std.proofs.lemmas.Int.{to_z_pos}
use Rattle.std.proofs.lemmas.List.{length-map}
use Rattle.frac128.specs.declared.fraction.Frac.{Frac}
use Rattle.linear.specs.Rows.{fractions_of, rows_of}
use Rattle.vectors.specs.Causes.{limit}
use Rattle.vectors.specs.Matrices.{denominator, greatest_of, greatest_sum, sum_of_column}
use Rattle.eigen_split.specs.Ints.{IsReady}
use Rattle.eigen_split.specs.Parts.{found_of}
use Rattle.eigen_split.specs.Refusal.{IfSplitRefused}
use Rattle.eigen_split.proofs.Finishing.{sum_refused, is_ready, range_refused, search_refused, ok_answer, eigen_answer}
use Rattle.eigen_split.proofs.larger.Goals as goal
use Rattle.eigen_split.proofs.larger.Goals.{In-Some, In-Some-greatest_sum}

least : (c : In-Some) → c.in-Some.denominator ≡ denominator (rows_of c.args.matrix.now.items)
least c = c.in-Some.ensures.0
    ∙ ap (λ (rows : List (Vec Frac Global)). denominator (rows_of rows)) c.as_slice.ensures.value

sum_is : (c : In-Some-greatest_sum)
    → c.in-Some.denominator ≡ denominator (rows_of c.args.matrix.now.items)
    → c.in-Some-greatest_sum.sum
    ≡ greatest_sum (length c.args.matrix.now.items) (rows_of c.args.matrix.now.items)
sum_is c e = c.in-Some-greatest_sum.ensures.0
    ∙ ap (λ d. greatest_of (length c.args.matrix.now.items)
    (sum_of_column d (rows_of c.args.matrix.now.items))) e

-- where the sum is within the limit
ready_in : (c : In-Some-greatest_sum)
    → c.in-Some.denominator ≡ denominator (rows_of c.args.matrix.now.items)
    → c.in-Some-greatest_sum.sum ≤ limit (length c.args.matrix.now.items)
    → IsReady (length c.args.matrix.now.items) (rows_of c.args.matrix.now.items)
    c.in-Some.denominator
ready_in c e within = is_ready c.args.matrix.now.items c.requires.size c.requires.square e
    c.in-Some.ensures.1
    (subst (λ m. m ≤ limit (length c.args.matrix.now.items)) (sum_is c e) within)

pub returns-in_default-greatest_sum : goal.returns-in_default-greatest_sum
returns-in_default-greatest_sum c =
    subst (IfSplitRefused (length c.args.matrix.now.items) (rows_of c.args.matrix.now.items))
    (sym c.too_wide-in_default-greatest_sum.ensures)
    (sum_refused c.args.matrix.now.items c.in-Some.denominator c.requires.some
    (least (goal.at.returns-in_default-greatest_sum c).In-Some) c.in_default-greatest_sum.ensures)

pub returns-then-sum-limit : goal.returns-then-sum-limit
returns-then-sum-limit c =
    let xs = c.args.matrix.now.items in
    let s = c.in-Some-greatest_sum.sum in
    let e = least (goal.at.returns-then-sum-limit c).In-Some in
    range_refused xs c.in-Some.denominator s _ c.requires.some e c.in-Some.ensures.1
    (sum_is (goal.at.returns-then-sum-limit c).In-Some-greatest_sum e)
    c.in-Some-greatest_sum.ensures.1
    (subst (λ m. m < s) (c.limit.ensures ∙ ap limit (c.len.ensures ∙ c.args.matrix.now.ok.0))
    c.if-sum-limit.true)
    (to_z_pos w128 s c.in-Some-greatest_sum.ensures.1)

pub invariant_of-multiple : goal.invariant_of-multiple
invariant_of-multiple c = record {
  ready = ready_in (goal.at.invariant_of-multiple c).In-Some-greatest_sum
      (least (goal.at.invariant_of-multiple c).In-Some)
      (subst (λ m. c.in-Some-greatest_sum.sum ≤ m)
      (c.limit.ensures ∙ ap limit (c.len.ensures ∙ c.args.matrix.now.ok.0)) c.if-sum-limit.false);
}

pub returns-in-Err : goal.returns-in-Err
returns-in-Err c =
    let e = least (goal.at.returns-in-Err c).In-Some in
    search_refused c.args.matrix.now.items c.in-Some.denominator c.in-Some-greatest_sum.sum
    c.in-Err.error c.requires.some e c.in-Some.ensures.1
    (sum_is (goal.at.returns-in-Err c).In-Some-greatest_sum e) c.in-Some-greatest_sum.ensures.1
    (subst (λ m. c.in-Some-greatest_sum.sum ≤ m)
    (c.limit.ensures ∙ ap limit (c.len.ensures ∙ c.args.matrix.now.ok.0)) c.if-sum-limit.false)
    c.in-Err.ensures.refused

pub returns-then-len : goal.returns-then-len
returns-then-len c =
    let xs = c.args.matrix.now.items in
    let s = c.in-Some-greatest_sum.sum in
    let e = least (goal.at.returns-then-len c).In-Some in
    let at = (goal.at.returns-then-len c).In-Some-greatest_sum in
    let is = sum_is at e in
    let within = subst (λ m. s ≤ m)
    (c.limit.ensures ∙ ap limit (c.len.ensures ∙ c.args.matrix.now.ok.0)) c.if-sum-limit.false in
    ok_answer xs c.in-Some.denominator s _ (found_of c.in-Ok.found) (ready_in at e within)
    is c.in-Some-greatest_sum.ensures.1 (search rules) c.in-Ok.ensures.searched
    (length-map c.in-Ok.found.forms.items (λ (v : Vec Frac Global). fractions_of v.items)
    ∙ sym (c.len-in-Ok.ensures ∙ c.in-Ok.found.forms.ok.0) ∙ c.if-len.true
    ∙ c.len-in-Ok-2.ensures ∙ c.args.matrix.now.ok.0)

pub returns-else-len : goal.returns-else-len
returns-else-len c =
    let xs = c.args.matrix.now.items in
    let s = c.in-Some-greatest_sum.sum in
    let e = least (goal.at.returns-else-len c).In-Some in
    let at = (goal.at.returns-else-len c).In-Some-greatest_sum in
    let is = sum_is at e in
    let within = subst (λ m. s ≤ m)
    (c.limit.ensures ∙ ap limit (c.len.ensures ∙ c.args.matrix.now.ok.0)) c.if-sum-limit.false in
    eigen_answer xs c.in-Some.denominator s _ (found_of c.in-Ok.found) (ready_in at e within)
    is c.in-Some-greatest_sum.ensures.1 (search rules) c.in-Ok.ensures.searched
    (λ e. c.if-len.false (c.len-in-Ok.ensures ∙ c.in-Ok.found.forms.ok.0
    ∙ sym (length-map c.in-Ok.found.forms.items (λ (v : Vec Frac Global). fractions_of v.items))
    ∙ e ∙ sym (c.len-in-Ok-2.ensures ∙ c.args.matrix.now.ok.0)))
