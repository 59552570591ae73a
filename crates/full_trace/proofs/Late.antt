-- Branches that begin late.
--   at_zero            where none is found, all begin at 0
--   all_at_zero        and so all branches of the program do
--   first_late         the first that is found is that of the program
--   never_late         where all begin at 0, none is the first that begins later
--   first_late_one     there is one first
use Rattle.std.proofs.Common.{◌≡◌, inl, inr, ℕ, zero, suc, ◌<◌, ◌≤◌, List, [], ◌∷◌, map, length, get_or, position, Some, None, refl, ap, ◌∙◌, arith, All}
use Rattle.std.specs.List.{position_or_len}
use Rattle.std.proofs.lemmas.Bool.{cases_lt, ltb-true, ltb-false}
use Rattle.std.proofs.lemmas.Grind.{common_steps}
use Rattle.std.proofs.lemmas.List.{get_or-map}
use Rattle.std.proofs.lemmas.List.Elements.{All-head, All-tail}
use Rattle.std.proofs.lemmas.List.Quantifiers.{position-Some}
use Rattle.std.proofs.lemmas.List.Sums.{fails_before_first}
use Rattle.loops.specs.Program.{Expr, Program}
use Rattle.loops.specs.WellFormed.{IsWellFormed}
use Rattle.rounds.specs.Form as form
use Rattle.rounds.specs.Journal.{since_of}
use Rattle.rounds.proofs.Forms.{forms_are_one}
use Rattle.invariant_fix.specs.Setting.{form_of, FitsSetting, IsSettingOf}
use Rattle.invariant_fix.specs.declared.branches.Branch.{Branch}
use Rattle.invariant_fix.specs.declared.setting.Setting.{Setting}
use Rattle.invariant_fix.proofs.Following.{are_forms}
use Rattle.invariant_fix.proofs.Forms.{item_at}
use Rattle.full_trace.specs.Late.{is_late, BeginsAtZero, AllBeginAtZero, IsFirstLate}

pub at_zero : (cs : List Branch) → position is_late cs ≡ None → All BeginsAtZero cs
at_zero cs e = λ i c l.
    (let at : length cs ≤ position_or_len is_late cs = grind (arith, common_steps) in
    let h = ltb-false 0 (get_or cs i c).form.since
    (fails_before_first is_late cs i c (omega (arith, at, l))) in
    omega (arith, h))

abbrev pub forms_in : List Branch → List form.Form
forms_in cs = map (λ (c : Branch). form_of c.form) cs

all_zero : (cs : List Branch) → All BeginsAtZero cs → (b : ℕ) → since_of (forms_in cs) b ≡ 0
all_zero [] a b = refl
all_zero (c ∷ cs) a zero = All-head BeginsAtZero c cs a
all_zero (c ∷ cs) a (suc b) = all_zero cs (All-tail BeginsAtZero c cs a) b

since_at : (cs : List Branch) (b : ℕ) (c : Branch) → b < length cs
    → since_of (forms_in cs) b ≡ (get_or cs b c).form.since
since_at cs b c l = ap (λ (f : form.Form). f.since)
    (get_or-map (λ (c : Branch). form_of c.form) cs b c _ l)

module _ {program : Program (Expr ℕ)} (w : IsWellFormed program) {s : Setting}
    (fits : FitsSetting s) (is : IsSettingOf program s) where
  pub all_at_zero : All BeginsAtZero s.branches.items → AllBeginAtZero program
  all_at_zero a = λ fs are b.
      ap (λ l. since_of l b) (forms_are_one program fs (forms_in s.branches.items) are
      (are_forms program w s fits is))
      ∙ all_zero s.branches.items a b

  pub first_late : (b : ℕ) → position is_late s.branches.items ≡ Some b → IsFirstLate program b
  first_late b e =
      let cs = s.branches.items in
      let c = item_at cs 0 (let k = fits.some_branch in omega (arith, k)) in
      let p = position-Some is_late cs b c e in
      record {
        forms = forms_in cs;
        are_forms = are_forms program w s fits is;
        within = (let l = p.0 in let k = is.branches.count in omega (arith, l, k));
        late = (let h = ltb-true 0 (get_or cs b c).form.since p.1 in
            let k = since_at cs b c p.0 in omega (arith, h, k));
        before = λ j l. (let h = ltb-false 0 (get_or cs j c).form.since (p.2 j l) in
            let n = p.0 in
            let k = since_at cs j c (omega (arith, l, n)) in omega (arith, h, k));
      }

module _ (program : Program (Expr ℕ)) where
  pub never_late : AllBeginAtZero program → (b : ℕ) → IsFirstLate program b → ⊥
  never_late all b f =
      let a = all f.forms f.are_forms b in
      let l = f.late in
      absurd (omega (arith, a, l))

  not_before : (b c : ℕ) → IsFirstLate program b → IsFirstLate program c → b < c → ⊥
  not_before b c x y l =
      let same = ap (λ fs. since_of fs b)
      (forms_are_one program x.forms y.forms x.are_forms y.are_forms) in
      let a = y.before b l in
      let h = x.late in
      absurd (omega (arith, same, a, h))

  pub first_late_one : (b c : ℕ) → IsFirstLate program b → IsFirstLate program c → b ≡ c
  first_late_one b c x y = elim (cases_lt b c) [
    | inl l ↦ absurd (not_before b c x y l)
    | inr k ↦ elim (cases_lt c b) [
      | inl l ↦ absurd (not_before c b y x l)
      | inr l ↦ omega (arith, k, l)
    ]
  ]
