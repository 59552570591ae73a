use Rattle.std.proofs.Common.{◌≡◌, ◌<◌, ◌≤◌, ◌+◌, [], ◌∷◌, ◌++◌, All, length, map, Bool, true, false, cond, unsigned_abs, refl, ap, sym, subst, ◌∙◌, arith}
use mir.Val.{bool_byte}
use Rattle.std.proofs.lemmas.Result.{IfOk-weaker}
use Rattle.expo.specs.Powers.{side_of}
use Rattle.closed_forms.proofs.Joining.{sides_front, sides_length}
use Rattle.closed_forms.proofs.recurrence.Recurrence.behind_power.Goals as goal
use Rattle.closed_forms.proofs.recurrence.Recurrence.behind_power.Goals.{In_ok-push_sides-2}

byte_is : (b : Bool) → bool_byte b ≡ cond b 1 0
byte_is true = refl
byte_is false = refl

pub push_sides-requires : goal.push_sides-requires
push_sides-requires c = subst (All (λ z. unsigned_abs z < 128)) (sym c.deref.ensures.value)
    c.args.self.now.small

pub push_sides-requires-2 : goal.push_sides-requires-2
push_sides-requires-2 c = subst (All (λ z. unsigned_abs z < 128)) (sym c.deref-2.ensures.value)
    c.args.self.now.small

-- the exponents above the line, and those below it
module _ (c : In_ok-push_sides-2) where
  above : c.push_sides.new.out.items ≡ c.in_ok-exponents.exponents.items
      ++ map (side_of false) c.args.self.now.own.exponents.items
  above = c.in_ok-push_sides.ensures
      ∙ ap (λ l. c.in_ok-exponents.exponents.items ++ map (side_of false) l)
      c.deref.ensures.value

  below : c.push_sides-2.new.out.items ≡ c.push_sides.new.out.items
      ++ map (side_of true) c.args.self.now.own.exponents.items
  below = c.in_ok-push_sides-2.ensures
      ∙ ap (λ l. c.push_sides.new.out.items ++ map (side_of true) l) c.deref-2.ensures.value

  long : length c.push_sides-2.new.out.items + length c.args.variables.now ≤ 4096
  long =
      let r = c.args.self.now in
      let m = sides_length _ _ (ap length c.in_ok-exponents.ensures.items) above below in
      omega (arith, m, r.power.count, r.few, c.requires)

pub new-requires : goal.new-requires
new-requires c = let l = long (goal.at.new-requires c).In_ok-push_sides-2 in omega (arith, l)

pub concat-requires : goal.concat-requires
concat-requires c =
    let l = long (goal.at.concat-requires c).In_ok-push_sides-2 in
    let e = ap length c.in_ok-front.ensures.ok in
    omega (arith, l, e)

pub returns : goal.returns
returns c = record {
  ok = let at = (goal.at.returns c).In_ok-push_sides-2 in
      let p = c.args.self.now.own in
      IfOk-weaker c.concat.result _ _ (λ mono is. is ∙ ap (λ l. l ++ c.args.variables.now)
      c.in_ok-front.ensures.ok ∙ sides_front p.negative _ c.args.variables.now
      (c.in_ok-exponents.ensures.items ∙ ap (λ n. 0 ∷ n ∷ []) (c.from.ensures ∙ byte_is p.negative))
      (above at) (below at)) c.concat.ensures.ok;
}
