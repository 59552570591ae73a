-- A branch has one closed form, so a program one list of forms, and its journals are beginnings of one list.
--   closed_forms_are_one, forms_are_one
--   enough_budget        where a finished journal has at most as many units as the limit, none is out of it
use Rattle.std.proofs.Common.{◌≡◌, ◌≢◌, ◌⊎◌, inl, inr, ℕ, suc, ◌<◌, ◌≤◌, unsigned_abs, List, [], ◌∷◌, map, get_or, length, arith, refl, sym, ap, ap₂, subst, ◌∙◌, Option, None}
use Rattle.algebra.specs.Each.{Each}
use Rattle.algebra.specs.In.{In}
use Rattle.algebra.specs.Gcd.{gcd}
use Rattle.algebra.specs.Ratio.{is_lowest, reduce}
use Rattle.algebra.specs.Fraction.{Fraction, fraction, ℚ}
use Rattle.polynomials.specs.Order.{grevlex}
use Rattle.polynomials.specs.Terms.{Terms}
use Rattle.polynomials.specs.Polynomial.{IsPolynomial}
use Rattle.polynomials.proofs.Orders.{grevlex_order}
use Rattle.exponentials.specs.Base.{IsProductOf, IsTheBase}
use Rattle.exponentials.proofs.BaseLaws.{is_the_base}
use Rattle.algebra.proofs.In.{each_in, each_from, in_left, in_right, in_either, in_map, map-in}
use Rattle.exponentials.proofs.Lists.{each_map}
use Rattle.exponentials.proofs.Powers.{product-pos}
use Rattle.solvable_maps.specs.Classes.{sizes_of}
use Rattle.solvable_maps.specs.Iterations.{width, IsNormal, IsNormalForm, IsClosedFormFrom}
use Rattle.solvable_maps.proofs.OneForm.{forms_one}
use Rattle.loops.specs.Map.{branch_map}
use Rattle.machines.specs.Journal.{Entry, units_of}
use Rattle.loops.specs.Program.{Expr, Program}
use Rattle.loops.proofs.Maps.{length-branch_map}
use Rattle.rounds.specs.Word.{branch_of}
use Rattle.rounds.specs.Form.{Form, IsClosedForm}
use Rattle.rounds.specs.Journal.{AreForms, setting_from, ComesFrom, IsOutFrom}
use Rattle.machines.specs.Run.{IsRun}
use Rattle.rounds.specs.Analysis.{move_of, moves, fresh, next, goes, finished}
use Rattle.rounds.proofs.Prefixes.{exhausted_is_more}

sizes_among : (us vs : List Fraction) → ((x : Fraction) → In x us → In x vs) → (n : ℕ)
    → In n (sizes_of us) → In n (sizes_of vs)
sizes_among us vs h n i = go (in_either n (map (λ (x : Fraction). unsigned_abs x.num) us)
    (map (λ (x : Fraction). x.den) us) i)
  where
    go : In n (map (λ (x : Fraction). unsigned_abs x.num) us)
        ⊎ In n (map (λ (x : Fraction). x.den) us) → In n (sizes_of vs)
    go (inl j) =
        let (x, k, e) = in_map (λ (x : Fraction). unsigned_abs x.num) us n j in
        subst (λ y. In y (sizes_of vs)) (sym e)
        (in_left _ (map (λ (x : Fraction). unsigned_abs x.num) vs)
        (map (λ (x : Fraction). x.den) vs) (map-in (λ (x : Fraction). unsigned_abs x.num) vs x
        (h x k)))
    go (inr j) =
        let (x, k, e) = in_map (λ (x : Fraction). x.den) us n j in
        subst (λ y. In y (sizes_of vs)) (sym e)
        (in_right _ (map (λ (x : Fraction). unsigned_abs x.num) vs)
        (map (λ (x : Fraction). x.den) vs) (map-in (λ (x : Fraction). x.den) vs x (h x k)))

-- a base of a list is one of each list with the same members
same_members : (ns ks bs : List ℕ) → ((x : ℕ) → In x ns → In x ks) → ((x : ℕ) → In x ks → In x ns)
    → IsTheBase ns bs → IsTheBase ks bs
same_members ns ks bs to from b = record {
  coarsest = record {
    base = record {
      coprime = b.coarsest.base.coprime;
      products = moved_each ns ks from (IsProductOf bs) b.coarsest.base.products;
    };
    coarsest = λ cs c. b.coarsest.coarsest cs (record {
      coprime = c.coprime;
      products = moved_each ks ns to (IsProductOf cs) c.products;
    });
  };
  ascending = b.ascending;
  divides = each_map bs (λ x d. record {
    number = d.number;
    within = to d.number d.within;
    divides = d.divides;
  }) b.divides;
}
  where
    moved_each : (xs ys : List ℕ) → ((x : ℕ) → In x ys → In x xs) → (P : ℕ → Type 0) → Each P xs
        → Each P ys
    moved_each xs ys f P h = each_from ys (λ x i. each_in P xs x h (f x i))

some_size : (ns bs : List ℕ) → IsTheBase ns bs → Each (λ x. 0 < x) ns
some_size ns bs b = each_map ns (λ x (m : IsProductOf bs x).
    subst (λ y. 0 < y) m.is (product-pos bs m.exponents b.coarsest.base.coprime))
    b.coarsest.base.products

zero_size : unsigned_abs ℚ.zero.num ≡ 0
unfolding fraction is_lowest reduce gcd
zero_size = refl

-- no number of which there is a base is zero
no_zero : (values : List Fraction) (base : List ℕ) → IsTheBase (sizes_of values) base
    → (c : Fraction) → In c values → c ≢ ℚ.zero
no_zero values base is c i e =
    let size : In (unsigned_abs c.num) (sizes_of values) =
    in_left (unsigned_abs c.num) (map (λ (x : Fraction). unsigned_abs x.num) values)
    (map (λ (x : Fraction). x.den) values)
    (map-in (λ (x : Fraction). unsigned_abs x.num) values c i) in
    let some : 0 < unsigned_abs c.num = each_in (λ n. 0 < n) (sizes_of values)
    (unsigned_abs c.num) (some_size (sizes_of values) base is) size in
    let none : unsigned_abs c.num ≡ 0 = ap (λ (x : Fraction). unsigned_abs x.num) e ∙ zero_size in
    absurd (omega (arith, some, none))

module _ {At : Type 0} (program : Program (Expr At)) (b : ℕ) where
  abbrev m : ℕ
  m = length program.names

  values_among : (f g : Form) (p : IsClosedForm program b f) (q : IsClosedForm program b g)
      → (x : Fraction) → In x p.base.values → In x q.base.values
  values_among f g p q x i = q.base.all x (p.base.only x i)
      (no_zero p.base.values f.base p.base.is x i)

  bases_one : (f g : Form) → IsClosedForm program b f → IsClosedForm program b g → f.base ≡ g.base
  bases_one f g p q =
      let to = sizes_among p.base.values q.base.values (values_among f g p q) in
      let from = sizes_among q.base.values p.base.values (values_among g f q p) in
      let c = same_members (sizes_of p.base.values) (sizes_of q.base.values) f.base to from
      p.base.is in
      let s = some_size (sizes_of q.base.values) g.base q.base.is in
      is_the_base (sizes_of q.base.values) f.base s c
      ∙ sym (is_the_base (sizes_of q.base.values) g.base s q.base.is)

  abbrev bm : List (Terms Fraction)
  bm = branch_map program (branch_of program b)

  size : length bm ≡ m
  size = length-branch_map program (branch_of program b)

  normals : (bs : List ℕ) (ps : List (Terms Fraction))
      → Each (IsPolynomial ℚ grevlex (width (length bs) m)) ps → Each (IsNormal bs) ps
      → Each (IsNormalForm bs grevlex (length bm)) ps
  unfolding Each
  normals bs [] a c = tt
  normals bs (p ∷ ps) a c = (
    record {
      polynomial = subst (λ n. IsPolynomial ℚ grevlex (width (length bs) n) p) (sym size) a.0;
      normal = c.0;
    },
    normals bs ps a.1 c.1,
  )

  polys_one : (f g : Form) → IsClosedForm program b f → IsClosedForm program b g
      → f.polys ≡ g.polys
  polys_one f g p q =
      let e : f.base ≡ g.base = bases_one f g p q in
      forms_one f.base p.base.is.coarsest.base.coprime grevlex grevlex_order bm f.since g.since
      f.polys g.polys
      (normals f.base f.polys p.polynomials p.normal)
      (normals f.base g.polys
      (subst (λ bs. Each (IsPolynomial ℚ grevlex (width (length bs) m)) g.polys) (sym e)
      q.polynomials) (subst (λ bs. Each (IsNormal bs) g.polys) (sym e) q.normal))
      p.form (subst (λ bs. IsClosedFormFrom bs bm g.since g.polys) (sym e) q.form)

  no_later : (f g : Form) → IsClosedForm program b f → IsClosedForm program b g
      → f.since ≤ g.since
  no_later f g p q = p.least g.since
      (subst (λ bs. IsClosedFormFrom bs bm g.since f.polys) (sym (bases_one f g p q))
      (subst (λ ps. IsClosedFormFrom g.base bm g.since ps) (sym (polys_one f g p q)) q.form))

  pub closed_forms_are_one : (f g : Form) → IsClosedForm program b f → IsClosedForm program b g
      → f ≡ g
  closed_forms_are_one f g p q =
      let e : f.base ≡ g.base = bases_one f g p q in
      let same : f.polys ≡ g.polys = polys_one f g p q in
      let few : f.since ≤ g.since = no_later f g p q in
      let many : g.since ≤ f.since = no_later g f q p in
      let once : f.since ≡ g.since = omega (arith, few, many) in
      λ i. record { base = e i; polys = same i; since = once i }

pub forms_are_one : {At : Type 0} (program : Program (Expr At)) (fs gs : List Form)
    → AreForms program fs → AreForms program gs → fs ≡ gs
forms_are_one program fs gs p q = by_places fs gs 0 (p.count ∙ sym q.count) (λ b l.
    closed_forms_are_one program (suc b) (get_or fs b none) (get_or gs b none) (p.each b none l)
    (q.each b none (let c = p.count in let d = q.count in omega (arith, c, d, l))))
  where
    none : Form
    none = record { base = []; polys = []; since = 0 }

    by_places : (xs ys : List Form) → ℕ → length xs ≡ length ys
        → ((b : ℕ) → b < length xs → get_or xs b none ≡ get_or ys b none) → xs ≡ ys
    by_places [] [] n l h = refl
    by_places [] (y ∷ ys) n l h = absurd (omega (arith, l))
    by_places (x ∷ xs) [] n l h = absurd (omega (arith, l))
    by_places (x ∷ xs) (y ∷ ys) n l h =
        ap₂ ◌∷◌ (h 0 (omega arith)) (by_places xs ys n (omega (arith, l)) (λ b k.
        h (suc b) (omega (arith, k))))

pub enough_budget : {At : Type 0} (program : Program (Expr At))
    (given : Option (List (Terms Fraction))) (es fs : List Entry) (k n : ℕ)
    (gs : List (Terms Fraction)) → ComesFrom program given None es (finished k gs) → units_of es ≤ n
    → IsOutFrom program given None n fs → ⊥
enough_budget program given es fs k n gs done few out =
    let same : out.comes.follows.forms ≡ done.follows.forms =
    forms_are_one program _ _ out.comes.follows.are_forms done.follows.are_forms in
    let A = setting_from program given done.follows.forms None in
    let run = subst (λ l. IsRun (moves (setting_from program given l None)) fresh fs
    out.comes.state) same out.comes.follows.run in
    let next_is = subst (λ l. next (setting_from program given l None) out.comes.state
    ≡ goes out.entry out.state) same out.comes.is in
    let less = exhausted_is_more A es fs done.state out.comes.state out.state out.entry
    done.follows.run
    (ap (move_of A) done.is) run (ap (move_of A) next_is) out.unit in
    let exhausted = out.exhausted in
    omega (arith, less, few, exhausted)
