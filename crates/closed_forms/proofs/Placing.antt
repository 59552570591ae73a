-- The polynomials of classes put in their places, and what is then known.
--   put_last, put_all                one polynomial of a class more
--   zeros_left                       the zeros of the splittings that are left, without one
--   known_begun, known_ready, known_next, known_last     before the first class, before and after a class, after the last
--   next_whole, sum_left             the class that comes next is one;  its zeros, and those that are left without them
--   bodies-count                     how many polynomials there are;  body_at, item_at: one of them
--   over_normals, put_over           they stay over their base
use Rattle.std.proofs.Common.{◌≡◌, inl, inr, ◌<◌, ◌≤◌, ℕ, zero, suc, ◌+◌, List, [], ◌∷◌, ◌++◌, length, get_or, set, Option, Some, None, refl, sym, ap, subst, ◌∙◌, arith, append_assoc, below_more}
use Rattle.std.specs.List.{concat}
use Rattle.std.proofs.lemmas.List.Folds.{concat-append}
use Rattle.std.proofs.lemmas.List.{append-nil, length-map, length-set, length_push, get_or-set_same, get_or-set_other, get_or_append_left, get_or_push, get_or-map, get_or_past}
use Rattle.std.proofs.lemmas.Bool.{cases_lt}
use Rattle.algebra.specs.Each.{Each}
use Rattle.algebra.specs.In.{In}
use Rattle.algebra.proofs.In.{in_left, in_right}
use Rattle.algebra.specs.Fraction.{Fraction}
use Rattle.polynomials.specs.Order.{grevlex}
use Rattle.polynomials.specs.Polynomial.{AllArity}
use Rattle.polynomials.specs.Terms.{Terms}
use Rattle.solvable_maps.specs.Class.{AreClasses, Above, Ascends}
use Rattle.solvable_maps.specs.Uses.{uses, poly_at}
use Rattle.linear.specs.Rows.{fractions_of}
use Rattle.eigen_split.specs.declared.splitting.Split.{Split}
use Rattle.poly.specs.Seen.{terms_in}
use Rattle.solvable_maps.specs.Classes.{IsClass, first_of}
use Rattle.solvable_maps.specs.AfterIterations.{place, IsAfterIterations}
use Rattle.solvable_maps.specs.Iterations.{width, IsNormalForm, IsClosedFormFrom}
use Rattle.solvable_maps.proofs.Classes.{member_dec}
use Rattle.solvable_maps.proofs.ClassSteps.{place_in}
use Rattle.solvable_maps.proofs.Made.{in_place}
use Rattle.solvable_maps.proofs.Classwise.{whole_more, next_apart, next_is_class, later_turned, turned_none, turned_more, turned_all}
use Rattle.expo.specs.declared.exponential.Expo.{Expo}
use Rattle.closed_forms.specs.Known.{AreKnown, IsReady}
use Rattle.closed_forms.specs.States.{zeros_in}
use Rattle.closed_forms.specs.Put.{IsPutTo, IsPut}
use Rattle.closed_forms.specs.Values.{values_in, bodies_of, IsExpoOver, AreOver}
use Rattle.closed_forms.proofs.Ahead.{zeros-append}
use Rattle.closed_forms.proofs.Joining.{over_normal}
use Rattle.closed_forms.proofs.Mixing.{poly_get}
use Rattle.closed_forms.proofs.Splitting.{first_in}

-- ---- places
above_place : (i : ℕ) (g : List ℕ) → Above i g → (a : ℕ) → a < length g → i < place g a
above_place i [] h a l = absurd (omega (arith, l))
above_place i (j ∷ g) h zero l = h.0
above_place i (j ∷ g) h (suc a) l = above_place i g h.1 a (omega (arith, l))

places_ascend : (g : List ℕ) → Ascends g → (a b : ℕ) → a < b → b < length g → place g a < place g b
places_ascend [] h a b l k = absurd (omega (arith, k))
places_ascend (i ∷ g) h zero zero l k = absurd (omega (arith, l))
places_ascend (i ∷ g) h zero (suc b) l k = above_place i g h.0 b (omega (arith, k))
places_ascend (i ∷ g) h (suc a) zero l k = absurd (omega (arith, l))
places_ascend (i ∷ g) h (suc a) (suc b) l k = places_ascend g h.1 a b (omega (arith, l))
    (omega (arith, k))

place-get : (g : List ℕ) (a d : ℕ) → a < length g → get_or g a d ≡ place g a
place-get [] a d l = absurd (omega (arith, l))
place-get (i ∷ g) zero d l = refl
place-get (i ∷ g) (suc a) d l = place-get g a d (omega (arith, l))

-- ---- one set at a place
-- the last of news goes to its place first
pub put_last : (g : List ℕ) (news left old mid : List Expo) {new : List Expo} {i : ℕ} (x : Expo)
    → Ascends g → news ≡ left ++ x ∷ [] → length news ≤ length g → i ≡ get_or g (length left) 0
    → i < length old → mid ≡ set old i x → IsPutTo (length left) g left mid new
    → IsPutTo (length news) g news old new
put_last g news left old mid {new = new} {i = i} x up is few read low e h = record {
  count = h.count ∙ ap length e ∙ length-set old i x;
  each = λ a d b. below_more (λ a. get_or new (place g a) d ≡ get_or news a d) (length left)
      (before d) (last d) a (let n = size in omega (arith, b, n));
  others = λ j d n.
      h.others j d (λ a b. n a (let s = size in omega (arith, b, s)))
      ∙ ap (λ l. get_or l j d) e
      ∙ get_or-set_other old i j x d (λ q. n (length left) (let s = size in omega (arith, s)) (q
      ∙ at));
}
  where
    size : length news ≡ length left + 1
    size = ap length is ∙ length_push left x

    low_last : length left < length g
    low_last = (let s = size in omega (arith, s, few))

    at : i ≡ place g (length left)
    at = read ∙ place-get g (length left) 0 low_last

    before : (d : Expo) (a : ℕ) → a < length left → get_or new (place g a) d ≡ get_or news a d
    before d a l = h.each a d l ∙ sym (get_or_append_left left (x ∷ []) d a l)
        ∙ ap (λ xs. get_or xs a d) (sym is)

    last : (d : Expo) → get_or new (place g (length left)) d ≡ get_or news (length left) d
    last d =
        h.others (place g (length left)) d (λ j q r. let p = places_ascend g up j (length left) q
        low_last in absurd (omega (arith, p, r)))
        ∙ ap (λ l. get_or l (place g (length left)) d) e
        ∙ ap (λ j. get_or (set old i x) j d) (sym at)
        ∙ get_or-set_same old i x d low
        ∙ sym (get_or_push left x d (length left) refl)
        ∙ ap (λ xs. get_or xs (length left) d) (sym is)

pub put_all : (g : List ℕ) (news old new : List Expo) → length news ≡ length g
    → IsPutTo (length news) g news old new → IsPut g news old new
put_all g news old new e h = subst (λ n. IsPutTo n g news old new) e h

-- ---- the polynomial at a place
pub bodies-count : (xs : List Expo) → length (bodies_of xs) ≡ length xs
bodies-count xs = length-map xs (λ (e : Expo). terms_in e.body)

pub body_at : (es : List Expo) (i : ℕ) (e : Expo) → i < length es → e ≡ get_or es i e
    → poly_at (bodies_of es) i ≡ terms_in e.body
body_at es i e l is =
    let f : Expo → Terms Fraction = λ (y : Expo). terms_in y.body in
    poly_get (bodies_of es) i ∙ get_or-map f es i e [] l ∙ ap f (sym is)

pub item_at : (es : List Expo) (i : ℕ) → i < length es → (e : Expo) × (e ≡ get_or es i e)
item_at [] i l = absurd (omega (arith, l))
item_at (x ∷ es) zero l = (x, refl)
item_at (x ∷ es) (suc i) l = item_at es i (omega (arith, l))

at_none : (xs : List Expo) (i : ℕ) → length xs ≤ i → poly_at (bodies_of xs) i ≡ []
at_none xs i l = poly_get (bodies_of xs) i
    ∙ get_or_past (bodies_of xs) i [] (let n = bodies-count xs in omega (arith, l, n))

same_body : (xs ys : List Expo) (i j : ℕ) → i < length xs → j < length ys
    → ((d : Expo) → get_or xs i d ≡ get_or ys j d) → poly_at (bodies_of xs) i
    ≡ poly_at (bodies_of ys) j
same_body xs ys i j l k h =
    let a = item_at xs i l in
    body_at xs i a.0 l a.1 ∙ sym (body_at ys j a.0 k (a.1 ∙ h a.0))

-- ---- the zeros of the splittings that are left
zeros_left : (splits : List (Option Split)) (i : ℕ) (split : Split)
    → get_or splits i None ≡ Some split
    → zeros_in (fractions_of split.values.items) + zeros_in (values_in (set splits i None))
    ≡ zeros_in (values_in splits)
zeros_left [] i split e = absurd (let z : ⊥ = cc in z)
zeros_left (None ∷ splits) zero split e = absurd (let z : ⊥ = cc in z)
zeros_left (Some other ∷ splits) zero split e =
    let own : split ≡ other = cc in
    let a = zeros-append (fractions_of other.values.items) (values_in splits) in
    ap (λ (s : Split). zeros_in (fractions_of s.values.items) + zeros_in (values_in splits)) own
    ∙ sym a
zeros_left (None ∷ splits) (suc i) split e = zeros_left splits i split e
zeros_left (Some other ∷ splits) (suc i) split e =
    let a = zeros-append (fractions_of other.values.items) (values_in splits) in
    let b = zeros-append (fractions_of other.values.items) (values_in (set splits i None)) in
    let d = zeros_left splits i split e in
    omega (arith, a, b, d)

-- ---- what is known
module _ {base : List ℕ} {images : List (Terms Fraction)} {splits : List (Option Split)}
    {z : ℕ} where
  pub known_begun : {groups : List (List ℕ)} → AreClasses (uses images) (length images) [] groups
      → (ps : List (Terms Fraction)) → length ps ≡ length images → zeros_in (values_in splits) ≡ z
      → AreKnown base images splits z groups ps
  known_begun classes ps size count = record {
    before = [];
    order = classes;
    earlier = [];
    are = refl;
    whole = record { closed = λ i j h l c. absurd h };
    classes = classes;
    since = 0;
    turned = turned_none base images 0 ps size;
    left = splits;
    others = λ k d out. refl;
    sum = omega (arith, count);
  }

  -- the class that comes next, and its splitting, which is left
  module _ {rest : List (List ℕ)} {g : List ℕ} {ps : List (Terms Fraction)}
      (h : AreKnown base images splits z (g ∷ rest) ps) where
    pub next_whole : IsClass images g
    next_whole = next_is_class images h.earlier g h.classes.0 h.classes.1 h.classes.2

    first_within : In (first_of g) g
    first_within = first_in images g next_whole

    apart : (i : ℕ) → In i h.earlier → In i g → ⊥
    apart = next_apart (uses images) (length images) h.earlier g h.classes.0 h.whole h.classes.1
        h.classes.2

    pub sum_left : {split : Split} → get_or splits (first_of g) None ≡ Some split
        → zeros_in (fractions_of split.values.items)
        + zeros_in (values_in (set h.left (first_of g) None)) ≡ zeros_in (values_in h.left)
    sum_left {split = split} here = zeros_left h.left (first_of g) split
        (h.others (first_of g) None (λ before. apart (first_of g) before first_within) ∙ here)

    abbrev pub known_ready : {split : Split} → get_or splits (first_of g) None ≡ Some split
        → IsReady base images z (zeros_in (fractions_of split.values.items)) g ps
    known_ready here = record {
      before = h.before;
      behind = rest;
      order = h.order;
      earlier = h.earlier;
      are = h.are;
      first = h.classes.0;
      next = h.classes.1;
      class = h.classes.2;
      since = h.since;
      turned = h.turned;
      within = (let a = h.sum in let b = sum_left here in omega (arith, a, b));
    }

  pub known_next : {rest : List (List ℕ)} {g : List ℕ} (news old new : List Expo)
      (h : AreKnown base images splits z (g ∷ rest) (bodies_of old)) {split : Split}
      → get_or splits (first_of g) None ≡ Some split → IsPut g news old new
      → length news ≡ length g
      → ((a : ℕ) → a < length g
      → IsAfterIterations base images (h.since + zeros_in (fractions_of split.values.items))
      (place g a) (poly_at (bodies_of news) a))
      → AreKnown base images splits z rest (bodies_of new)
  known_next {rest = rest} {g = g} news old new h {split = split} here put count turned = record {
    before = h.before ++ g ∷ [];
    order = subst (AreClasses (uses images) (length images) [])
        (sym (append_assoc h.before (g ∷ []) rest)) h.order;
    earlier = h.earlier ++ g;
    are = ap (λ l. l ++ g) h.are ∙ sym (concat-append h.before (g ∷ [])
        ∙ ap (λ l. concat h.before ++ l) (append-nil g));
    whole = whole_more (uses images) (length images) h.earlier g h.classes.0 h.whole h.classes.2;
    classes = h.classes.3;
    since = d;
    turned = turned_more base images d h.earlier g (bodies_of old) (bodies_of new)
        (later_turned base images h.since d (omega arith) h.earlier (bodies_of old) h.turned)
        new-size at_new at_old (apart h);
    left = set h.left (first_of g) None;
    others = λ j x out.
        get_or-set_other h.left (first_of g) j None x
        (λ same. out (in_right j h.earlier g (subst (λ i. In i g) (sym same) (first_within h))))
        ∙ h.others j x (λ before. out (in_left j h.earlier g before));
    sum = (let a = h.sum in let b = sum_left h here in omega (arith, a, b));
  }
    where
      d : ℕ
      d = h.since + zeros_in (fractions_of split.values.items)

      new-size : length (bodies_of new) ≡ length images
      new-size = bodies-count new ∙ put.count ∙ sym (bodies-count old) ∙ h.turned.size

      at_new : (i : ℕ) → In i g → IsAfterIterations base images d i (poly_at (bodies_of new) i)
      at_new i inside =
          let r = in_place g i inside in
          let a = r.0 in
          let l = r.1 in
          let is = sym r.2 in
          let s = bodies-count new in
          let b = ((next_whole h).is.inside i inside).0 in
          subst (λ j. IsAfterIterations base images d j (poly_at (bodies_of new) j)) (sym is)
          (subst (IsAfterIterations base images d (place g a))
          (sym (same_body new news (place g a) a (omega (arith, s, new-size, b, is))
          (omega (arith, count, l)) (λ d. put.each a d l))) (turned a l))

      at_old : (i : ℕ) → (In i g → ⊥) → poly_at (bodies_of new) i ≡ poly_at (bodies_of old) i
      at_old i outside =
          let n = put.count in
          elim (cases_lt i (length new)) [
            | inl l ↦ same_body new old i i l (omega (arith, n, l))
                (λ d. put.others i d (λ a b q.
                outside (subst (λ j. In j g) (sym q) (place_in g a b))))
            | inr l ↦ at_none new i l ∙ sym (at_none old i (omega (arith, n, l)))
          ]

  pub known_last : (ps : List (Terms Fraction)) → AreKnown base images splits z [] ps
      → AllArity (width (length base) (length images)) ps → IsClosedFormFrom base images z ps
  known_last ps h a = turned_all base images z h.earlier ps h.classes
      (later_turned base images h.since z (let b = h.sum in omega (arith, b)) h.earlier ps h.turned)
      a

-- ---- over a base
pub over_normals : {base : List ℕ} {m : ℕ} (es : List Expo) → AreOver base m es
    → Each (IsNormalForm base grevlex m) (bodies_of es)
unfolding Each
over_normals [] h = tt
over_normals {base = base} {m = m} (e ∷ es) h = (
  over_normal (h 0 e (omega arith)),
  over_normals es
      (λ k d l. h (suc k) d (omega (arith, l))),
)

pub put_over : (base : List ℕ) {m : ℕ} (g : List ℕ) (news old new : List Expo)
    → IsPut g news old new → length news ≡ length g → AreOver base m news → AreOver base m old
    → AreOver base m new
put_over base {m = m} g news old new put count h k = λ i d l. elim (member_dec i g) [
  | yes inside ↦ (let r = in_place g i inside in let b = r.1 in subst (IsExpoOver base m)
      (sym (ap (λ j. get_or new j d) (sym r.2) ∙ put.each r.0 d b))
      (h r.0 d (omega (arith, count, b))))
  | no outside ↦ subst (IsExpoOver base m) (sym (put.others i d (λ a b e.
      outside (subst (λ j. In j g) (sym e) (place_in g a b)))))
      (k i d (let c = put.count in omega (arith, c, l)))
]
