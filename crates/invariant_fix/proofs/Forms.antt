-- The branch with its closed form, of what is known of the form.
--   has_closed_form       the closed form of a map is that of the branch
--   passing_is            it tells which variables pass
--   fits_branch           a branch with this form, and its inverse form, fits
--   solvable_of, pass_of  what is known of the map of the images
--   branches_more       the first branches, one after another
--   refused_here, refused_at          the first branch that is refused
--   item_at             an element of a list, at a place within it
use Rattle.std.proofs.Common.{◌≡◌, ◌⊎◌, inl, inr, ℕ, zero, suc, ◌<◌, ◌≤◌, ◌+◌, Bool, true, false, List, [], ◌∷◌, ◌++◌, map, length, get_or, refl, sym, ap, ap₂, subst, ◌∙◌, arith, Vec, Global}
use Rattle.std.proofs.lemmas.Bool.{cases_lt}
use Rattle.std.proofs.lemmas.List.{length-map, length-append, get_or_past, get_or_append_left, get_or_push}
use Rattle.std.proofs.lemmas.List.Elements.{All-head, All-tail}
use Rattle.algebra.specs.Each.{Each}
use Rattle.algebra.specs.Sum.{sum_over}
use Rattle.algebra.proofs.Basics.{below_or_last}
use Rattle.algebra.proofs.Each.{each_weaker}
use Rattle.algebra.specs.Fraction.{Fraction, ℚ, rationals}
use Rattle.algebra.proofs.Fractions.{ℚ_ring, ℚ_field}
use Rattle.polynomials.specs.Order.{grevlex}
use Rattle.polynomials.specs.Polynomial.{AllArity, IsPolynomial}
use Rattle.polynomials.specs.Algebra as Algebra
use Rattle.polynomials.specs.Terms.{Terms, variables, compose, negate, evaluate}
use Rattle.polynomials.proofs.Orders.{grevlex_order}
use Rattle.polynomials.proofs.ValueAt.{value_at_same}
use Rattle.machines.specs.Collect.{collect}
use Rattle.machines.proofs.Collecting.{collect-same}
use Rattle.exponentials.specs.Base.{Coprime}
use Rattle.loops.proofs.Maps.{length-variables}
use Rattle.solvable_maps.specs.Classes.{IsFormBase}
use Rattle.solvable_maps.specs.Expo.{zero_images}
use Rattle.solvable_maps.specs.Iterations as iterations
use Rattle.solvable_maps.specs.Iterations.{width, values_at, IsNormal, IsNormalForm}
use Rattle.loops.specs.Map.{branch_map}
use Rattle.loops.specs.Program.{Expr, Program}
use Rattle.coprime_base.specs.Sizes.{sizes}
use Rattle.poly.specs.Seen.{terms_in, terms_each}
use Rattle.expo.specs.View.{base_of}
use Rattle.expo.specs.declared.exponential.Expo.{Expo}
use Rattle.loop_model.specs.FracPoly.{FracPoly as Polynomial}
use Rattle.rounds.specs.BranchMap.{map_of}
use Rattle.rounds.specs.Form.{front, inverse_form, has_terms, passes, IsClosedForm}
use Rattle.rounds.proofs.Passing.{stays_of, passes_of}
use Rattle.rounds.specs.Word.{branch_of}
use Rattle.ideal_ops.specs.Calls as ideal
use Rattle.solvable.specs.Refusal.{IsSolvable}
use Rattle.closed_forms.specs.Lengths.{IsShort}
use Rattle.closed_forms.specs.Refusal.{AllPass, Refusal, IfFormRefused, IfRefusedBy}
use Rattle.closed_forms.specs.View.{ArePassing, IsFormOf}
use Rattle.closed_forms.specs.Values.{bodies_of, AreOver, IsExpoOver}
use Rattle.closed_forms.specs.declared.Form.{Form}
use Rattle.closed_forms.specs.declared.errors.FormsError.{FormsError}
use Rattle.closed_forms.specs.declared.errors.FormsError.TheVariants as forms_error
use Rattle.invariant_fix.specs.declared.branches.Branch.{Branch}
use Rattle.invariant_fix.specs.Refusals.{HasForm, IsRefusedBranch, refused_branch, IfRefusedBranch}
use Rattle.invariant_fix.specs.Setting.{form_of, IsSquare, FitsBranch, IsMapIn, IsBranchOf, AreBranchesTo}

-- ---- a map and the same collected have the same iterations
values_same : (images : List (Terms Fraction)) (s : List Fraction)
    → values_at (map (collect rationals grevlex) images) s ≡ values_at images s
values_same [] s = refl
values_same (p ∷ images) s =
    ap₂ ◌∷◌ (value_at_same ℚ_ring _ p s (collect-same ℚ_field grevlex grevlex_order p))
    (values_same images s)

iterations_same : (images : List (Terms Fraction)) (n : ℕ) (s : List Fraction)
    → iterations.iterations (map (collect rationals grevlex) images) n s ≡ iterations.iterations
    images n s
iterations_same images zero s = refl
iterations_same images (suc n) s = ap (values_at (map (collect rationals grevlex) images))
    (iterations_same images n s) ∙ values_same images (iterations.iterations images n s)

module _ (program : Program (Expr ℕ)) (b : ℕ) (f : Form) (images : List (Terms Fraction))
    (is : images ≡ map_of program b) (count : length images ≡ length program.names)
    (h : IsFormOf images f) where
  abbrev base : List ℕ
  base = sizes f.base.items

  abbrev polys : List (Terms Fraction)
  polys = bodies_of f.polys.items

  over_map : iterations.IsClosedFormFrom base (map_of program b) f.since polys
  over_map = subst (λ ms. iterations.IsClosedFormFrom base ms f.since polys) is h.closed

  over_branch : iterations.IsClosedFormFrom base (branch_map program (branch_of program b)) f.since
      polys
  unfolding map_of
  over_branch =
      let bm = branch_map program (branch_of program b) in
      let same = length-map bm (collect rationals grevlex) in
      record {
        arity = subst (λ n. AllArity (width (length base) n) polys) same over_map.arity;
        values = λ n s l e. over_map.values n s (l ∙ sym same) e ∙ iterations_same bm n s;
      }

  over_images : (d : ℕ)
      → iterations.IsClosedFormFrom base (branch_map program (branch_of program b)) d polys
      → iterations.IsClosedFormFrom base images d polys
  unfolding map_of
  over_images d c =
      let bm = branch_map program (branch_of program b) in
      let same = length-map bm (collect rationals grevlex) in
      subst (λ ms. iterations.IsClosedFormFrom base ms d polys) (sym is) (record {
        arity = subst (λ n. AllArity (width (length base) n) polys) (sym same) c.arity;
        values = λ n s l e. c.values n s (l ∙ same) e ∙ sym (iterations_same bm n s);
      })

  normal_forms : Each (IsNormalForm base grevlex (length program.names)) polys
  normal_forms = subst (λ n. Each (IsNormalForm base grevlex n) polys) count h.normal

  pub has_closed_form : IsClosedForm program b (form_of f)
  has_closed_form = record {
    base = subst (λ ms. IsFormBase ms base) is h.base;
    polynomials = each_weaker (IsNormalForm base grevlex (length program.names))
        (IsPolynomial ℚ grevlex (width (length base) (length program.names))) (λ p n. n.polynomial)
        polys normal_forms;
    normal = each_weaker (IsNormalForm base grevlex (length program.names)) (IsNormal base) (λ p n.
        n.normal) polys normal_forms;
    form = over_branch;
    least = λ d c. h.least d (over_images d c);
  }

-- ---- which variables pass
same_tests : (a b : Bool) → (a ≡ false → b ≡ false) → (b ≡ false → a ≡ false) → a ≡ b
same_tests false b h k = sym (h refl)
same_tests true false h k = k refl
same_tests true true h k = refl

nobody : (m : ℕ) (zs : List (Terms Fraction))
    → has_terms (collect rationals grevlex (compose ℚ m [] zs ++ negate ℚ [])) ≡ false
unfolding collect Algebra.negate evaluate sum_over
nobody m zs = refl

module _ (f : Form) {m : ℕ} (coprime : Coprime (sizes f.base.items))
    (polys : length (bodies_of f.polys.items) ≡ m) (count : length f.passing.items ≡ m)
    (told : ArePassing (sizes f.base.items) m (bodies_of f.polys.items) f.passing.items) where
  passes_beyond : (i : ℕ) → m ≤ i → passes (form_of f) m i ≡ false
  unfolding passes
  passes_beyond i l =
      ap₂ (λ p v. has_terms (collect rationals grevlex
      (compose ℚ m p (zero_images (length (sizes f.base.items)) m) ++ negate ℚ v)))
      (get_or_past (bodies_of f.polys.items) i [] (omega (arith, l, polys)))
      (get_or_past (variables ℚ m) i [] (let v = length-variables m in omega (arith, l, v)))
      ∙ nobody m (zero_images (length (sizes f.base.items)) m)

  pub passing_is : (i : ℕ) → get_or f.passing.items i false ≡ passes (form_of f) m i
  passing_is i = go (cases_lt i m)
    where
      go : (i < m) ⊎ (m ≤ i) → get_or f.passing.items i false ≡ passes (form_of f) m i
      go (inl l) = same_tests _ _
          (λ e. passes_of (form_of f) coprime m i l (omega (arith, l, polys)) ((told i l).0 e))
          (λ e. (told i l).1 (stays_of (form_of f) coprime m i l (omega (arith, l, polys)) e))
      go (inr l) = get_or_past f.passing.items i false (omega (arith, l, count))
          ∙ sym (passes_beyond i l)

-- ---- its parts

module _ (base : List ℕ) (m : ℕ) where
  expo_width : (e : Expo) → IsExpoOver base m e → e.body.arity ≡ front (length base) + m
  expo_width e o =
      let a = e.arity in
      let b = ap length o.over_base in
      let c = o.over_vars in
      omega (arith, a, b, c)

  backs : (es : List Expo) → AreOver base m es
      → map (λ (e : Expo). inverse_form grevlex (length (base_of e)) (terms_in e.body)) es
      ≡ map (inverse_form grevlex (length base)) (bodies_of es)
  backs [] o = refl
  backs (e ∷ es) o =
      ap₂ ◌∷◌ (ap (λ (bs : List ℕ). inverse_form grevlex (length bs) (terms_in e.body))
      (All-head (IsExpoOver base m) e es o).over_base)
      (backs es (All-tail (IsExpoOver base m) e es o))

  back_widths : (es : List Expo) (ps : List Polynomial) → AreOver base m es
      → map (λ (p : Polynomial). p.arity) ps ≡ map (λ (e : Expo). e.body.arity) es
      → ideal.AreOver (front (length base) + m) ps
  back_widths [] [] o h k d l = absurd (omega (arith, l))
  back_widths [] (p ∷ ps) o h k d l = absurd (let a = ap length h in omega (arith, a))
  back_widths (e ∷ es) [] o h k d l = absurd (omega (arith, l))
  back_widths (e ∷ es) (p ∷ ps) o h zero d l = ap head h
      ∙ expo_width e (All-head (IsExpoOver base m) e es o)
    where
      head : List ℕ → ℕ
      head [] = 0
      head (x ∷ xs) = x
  back_widths (e ∷ es) (p ∷ ps) o h (suc k) d l =
      back_widths es ps (All-tail (IsExpoOver base m) e es o) (ap behind h) k d (omega (arith, l))
    where
      behind : List ℕ → List ℕ
      behind [] = []
      behind (x ∷ xs) = xs

pub fits_branch : (b : Branch) → IsSquare b.images.items
    → IsFormOf (terms_each b.images.items) b.form
    → terms_each b.back.items ≡ map (λ (e : Expo). inverse_form grevlex (length (base_of e))
    (terms_in e.body)) b.form.polys.items
    → map (λ (p : Polynomial). p.arity) b.back.items ≡ map (λ (e : Expo). e.body.arity)
    b.form.polys.items → FitsBranch (length b.images.items) b
fits_branch b s h terms widths =
    let base = sizes b.form.base.items in
    let images = terms_each b.images.items in
    let size = length-map b.images.items terms_in in
    let over = subst (λ n. AreOver base n b.form.polys.items) size h.over in
    let bodies = length-map b.form.polys.items (λ (e : Expo). terms_in e.body) in
    let polys = bodies ∙ h.count in
    record {
      count = refl;
      arity = s.arity;
      base = (h.base.is.coarsest.base.coprime, h.base.is.ascending);
      short = h.short;
      few = (let a = h.short in let c = s.few in omega (arith, a, c));
      back_count = (let a = ap length widths in let c = length-map b.back.items (λ (p : Polynomial).
          p.arity) in let d = length-map b.form.polys.items (λ (e : Expo). e.body.arity) in
          omega (arith, a, c, d, polys, bodies, size));
      back_arity = back_widths base (length b.images.items) b.form.polys.items b.back.items over
          widths;
      back = terms ∙ backs base (length b.images.items) b.form.polys.items over;
      form_over = over;
      form_count = h.count ∙ size;
      early = h.early;
      passing_count = h.told ∙ size;
      passing = passing_is b.form h.base.is.coarsest.base.coprime (polys ∙ size) (h.told ∙ size)
          (subst (λ n. ArePassing base n (bodies_of b.form.polys.items) b.form.passing.items) size
          h.passes);
    }

-- ---- one branch after another
pub item_at : {X : Type 0} (xs : List X) (i : ℕ) → i < length xs → X
item_at [] i l = absurd (omega (arith, l))
item_at (x ∷ xs) zero l = x
item_at (x ∷ xs) (suc i) l = item_at xs i (omega (arith, l))

module _ (program : Program (Expr ℕ)) where
  pub branches_more : (n : ℕ) (cs news : List Branch) (c : Branch) → AreBranchesTo program n cs
      → news ≡ cs ++ c ∷ [] → IsBranchOf program (suc n) c → AreBranchesTo program (n + 1) news
  branches_more n cs news c h e is = record {
    count = (let a = ap length e in let b = length-append cs (c ∷ []) in let d = h.count in
        omega (arith, a, b, d));
    each = λ b d l. at b d l (let k : (b < n) ⊎ (b ≡ n) = below_or_last b n l in k);
  }
    where
      at : (b : ℕ) (d : Branch) → b < n + 1 → (b < n) ⊎ (b ≡ n)
          → IsBranchOf program (suc b) (get_or news b d)
      at b d l (inl k) = subst (IsBranchOf program (suc b)) (sym (ap (λ ms. get_or ms b d) e
          ∙ get_or_append_left cs (c ∷ []) d b (let i = h.count in omega (arith, i, k))))
          (h.each b d k)
      at b d l (inr k) = subst (IsBranchOf program (suc b)) (sym (ap (λ ms. get_or ms b d) e
          ∙ get_or_push cs c d b (let i = h.count in omega (arith, i, k))))
          (subst (λ j. IsBranchOf program (suc j) c) (sym k) is)

  has_form : (b : ℕ) (c : Branch) → IsBranchOf program b c → HasForm program b
  has_form b c i = record {
    form = form_of c.form;
    is = i.form;
    solvable = i.solvable;
    pass = i.pass;
    short = i.short;
  }

  pub all_forms : {cs : List Branch} {n : ℕ} → AreBranchesTo program n cs → (b : ℕ) → b < n
      → HasForm program (suc b)
  all_forms {cs = cs} h b l = let d = item_at cs b (let c = h.count in omega (arith, c, l)) in
      has_form (suc b) (get_or cs b d) (h.each b d l)

  -- the branch of these images
  pub branch_is : (n : ℕ) (images : Vec Polynomial Global) (c : Branch)
      → IsMapIn program (suc n) images → FitsBranch (length images.items) c → c.images ≡ images
      → IsFormOf (terms_each images.items) c.form → IsSolvable (terms_each images.items)
      → AllPass (terms_each images.items) → IsShort (terms_each images.items)
      → IsBranchOf program (suc n) c
  branch_is n images c i f e h s p few = record {
    fits = subst (λ m. FitsBranch m c) i.count f;
    images = ap (λ (v : Vec Polynomial Global). terms_each v.items) e ∙ i.is;
    form = has_closed_form program (suc n) c.form (terms_each images.items) i.is
        (length-map images.items terms_in ∙ i.count) h;
    solvable = subst IsSolvable i.is s;
    pass = subst AllPass i.is p;
    short = subst IsShort i.is few;
  }

  pub refused_here : (n : ℕ) {images : Vec Polynomial Global} (cs : List Branch) {r : Refusal}
      → n < length program.branches → IsMapIn program (suc n) images → AreBranchesTo program n cs
      → IfFormRefused (terms_each images.items) r → IsRefusedBranch program n r
  refused_here n cs {r = r} l i h cause = record {
    within = l;
    is = subst (λ ms. IfFormRefused ms r) i.is cause;
    before = λ c m. all_forms h c m;
  }

  pub refused_at : (n : ℕ) (images : Vec Polynomial Global) (cs : List Branch) (e : FormsError)
      → n < length program.branches → IsMapIn program (suc n) images → AreBranchesTo program n cs
      → IfRefusedBy (terms_each images.items) e → IfRefusedBranch program (refused_branch n e)
  refused_at n images cs (forms_error.NotSolvable cycle) l i h r = refused_here n cs l i h r
  refused_at n images cs (forms_error.Eigen class) l i h r = refused_here n cs l i h r
  refused_at n images cs (forms_error.Range class sum) l i h r = refused_here n cs l i h r
  refused_at n images cs (forms_error.WideSplit class candidate power row) l i h r =
      refused_here n cs l i h r
  refused_at n images cs (forms_error.LimitForm variable) l i h r = refused_here n cs l i h r
  refused_at n images cs (forms_error.WideForm variable) l i h r = refused_here n cs l i h r
  refused_at n images cs forms_error.Memory l i h r = tt
