-- The list of a certificate, and a row of cofactors, as the code makes them.
--   over_more                      one polynomial more over the same variables
--   copies_more, copies_all        copies of a list, one after another
--   found_at, not_yet, not_in      the place of an element, and that there is none
--   elements_begun, element_known, element_new     the list, element by element
--   zeros_more                     one zero more
--   set_over, filled_more, filled_done     the cofactors, each set at its place
--   row_placed                     the row
use Rattle.std.proofs.Common.{◌≡◌, ℕ, ◌+◌, ◌<◌, ◌≤◌, List, [], ◌∷◌, ◌++◌, take, drop, get_or, set, length, replicate, slice_get, Some, refl, sym, ap, ap₂, subst, ◌∙◌, inl, inr, arith}
use Rattle.std.proofs.lemmas.List.{append-nil, append_assoc, get_or-map, length-append, length-map, length-set, length-take-le, map-append, map-set, replicate_more, take_all}
use Rattle.std.proofs.lemmas.List.Elements.{All-push, All-set}
use Rattle.std.proofs.lemmas.Bool.{cases_lt}
use Rattle.std.proofs.lemmas.Option.{slice_get-get_or}
use Rattle.algebra.specs.In.{In}
use Rattle.algebra.proofs.In.{in_place}
use Rattle.algebra.proofs.Lists.{take_next}
use Rattle.machines.proofs.Places.{in_slice}
use Rattle.poly.specs.Seen.{terms_in, terms_each}
use Rattle.ideal_ops.specs.Calls.{AreOver}
use Rattle.loop_model.specs.FracPoly.{FracPoly}
use Rattle.closures.specs.Certified.{AreOthers, IsListOf, StandAt, placed}
use Rattle.closures.proofs.Listed.{get_longer, last_at, others_known, others_new, stand_more, stand_longer, places_apart, filled, filled_next, filled_over, filled_placed, zeros_none}
use Rattle.closing.specs.Proving.{FitsElements}
use Rattle.closing.specs.declared.listing.Elements.{Elements}

pub over_more : (m : ℕ) (list : List FracPoly) {more : List FracPoly} (q : FracPoly)
    → AreOver m list → q.arity ≡ m → more ≡ list ++ q ∷ [] → AreOver m more
over_more m list q a e is =
    subst (AreOver m) (sym is) (All-push (λ (p : FracPoly). p.arity ≡ m) list q a e)

module _ (list : List FracPoly) {more : List FracPoly} (q : FracPoly) (is : more ≡ list ++ q ∷ [])
  where
    pub terms_more : terms_each more ≡ terms_each list ++ terms_in q ∷ []
    terms_more = ap terms_each is ∙ map-append terms_in list (q ∷ [])

    pub copies_more : (ps : List FracPoly) (i : ℕ) {p : FracPoly} → i < length ps
        → p ≡ get_or ps i p
        → terms_in q ≡ terms_in p → terms_each list ≡ terms_each (take i ps)
        → terms_each more ≡ terms_each (take (i + 1) ps)
    copies_more ps i {p = p} l at e h =
        terms_more ∙ ap₂ (λ xs y. xs ++ y ∷ []) h e ∙ sym (take_next terms_in ps i p l at)

pub copies_all : (ps list : List FracPoly) (i : ℕ) → length ps ≤ i
    → terms_each list ≡ terms_each (take i ps) → terms_each list ≡ terms_each ps
copies_all ps list i l h = h ∙ ap terms_each (take_all i ps l)

-- ---- the place of an element
module _ (ps : List FracPoly) (e : FracPoly) where
  module _ (i : ℕ) (p : FracPoly) (l : i < length ps) (at : p ≡ get_or ps i p) where
    terms_at : get_or (terms_each ps) i [] ≡ terms_in p
    terms_at = get_or-map terms_in ps i p [] l ∙ ap terms_in (sym at)

    pub found_at : terms_in p ≡ terms_in e → slice_get (terms_each ps) i ≡ Some (terms_in e)
    found_at h =
        slice_get-get_or (terms_each ps) i []
        (let a = length-map ps terms_in in omega (arith, a, l)) ∙ ap Some (terms_at ∙ h)

    pub not_yet : ((j : ℕ) → j < i → terms_in e ≡ get_or (terms_each ps) j [] → ⊥)
        → (terms_in p ≡ terms_in e → ⊥) → (j : ℕ) → j < i + 1
        → terms_in e ≡ get_or (terms_each ps) j [] → ⊥
    not_yet h n j k is = elim (cases_lt j i) [
      | inl b ↦ h j b is
      | inr b ↦
          let same : j ≡ i = omega (arith, b, k) in
          n (sym (is ∙ ap (λ x. get_or (terms_each ps) x []) same ∙ terms_at))
    ]

  pub not_in : (i : ℕ) → length ps ≤ i
      → ((j : ℕ) → j < i → terms_in e ≡ get_or (terms_each ps) j [] → ⊥)
      → In (terms_in e) (terms_each ps) → ⊥
  not_in i l h n =
      let (j, k, is) = in_place (terms_each ps) [] (terms_in e) n in
      h j (let a = length-map ps terms_in in omega (arith, a, l, k)) (sym is)

-- ---- element by element
pub record ElementsTo (ps cs : List FracPoly) (i : ℕ) (list : List FracPoly) (ks : List ℕ) : Type
    0 where
  pub listed : IsListOf (terms_each ps) (terms_each (take i cs)) (terms_each list)
  pub stand : StandAt (terms_each list) (terms_each (take i cs)) ks
  pub count : length ks ≡ i
  pub few : length list ≤ length ps + i
  pub over : (m : ℕ) → AreOver m ps → AreOver m cs → AreOver m list

module _ (ps cs : List FracPoly) where
  pub elements_begun : (list : List FracPoly) → terms_each list ≡ terms_each ps
      → ((m : ℕ) → AreOver m ps → AreOver m list) → {ks : List ℕ} → ks ≡ []
      → ElementsTo ps cs 0 list ks
  unfolding AreOthers StandAt
  elements_begun list h over none = record {
    listed = record { others = []; are = refl; is = h ∙ sym (append-nil (terms_each ps)) };
    stand = tt;
    count = ap length none;
    few = (let a = ap length h in
        let b = length-map list terms_in in
        let c = length-map ps terms_in in
        omega (arith, a, b, c));
    over = λ m a b. over m a;
  }

  module _ (i : ℕ) (list : List FracPoly) (ks : List ℕ) (h : ElementsTo ps cs i list ks)
      (e : FracPoly) (l : i < length cs) (at : e ≡ get_or cs i e) where
    more : terms_each (take (i + 1) cs) ≡ terms_each (take i cs) ++ terms_in e ∷ []
    more = take_next terms_in cs i e l at

    taken : length (terms_each (take i cs)) ≡ length ks
    taken =
        let a = length-map (take i cs) terms_in in
        let b = length-take-le i cs (omega (arith, l)) in
        let c = h.count in
        omega (arith, a, b, c)

    e_over : (m : ℕ) → AreOver m cs → e.arity ≡ m
    e_over m a = ap (λ (p : FracPoly). p.arity) at ∙ a i e l

    pub element_known : (k : ℕ) → slice_get (terms_each ps) k ≡ Some (terms_in e)
        → (js : List ℕ) → js ≡ ks ++ k ∷ [] → ElementsTo ps cs (i + 1) list js
    element_known k is js jk =
        let o = h.listed in
        record {
          listed =
              subst (λ gs. IsListOf (terms_each ps) gs (terms_each list)) (sym more)
              (record {
                others = o.others;
                are =
                    others_known (terms_each ps) (terms_in e) (terms_each (take i cs)) o.others
                    o.are (in_slice (terms_each ps) k (terms_in e) is);
                is = o.is;
              });
          stand =
              subst (λ gs. StandAt (terms_each list) gs js) (sym more)
              (subst (StandAt (terms_each list) (terms_each (take i cs) ++ terms_in e ∷ []))
              (sym jk)
              (stand_more (terms_each list) (terms_each (take i cs)) ks (terms_in e) k taken
              h.stand
              (ap (λ xs. slice_get xs k) o.is
              ∙ get_longer (terms_each ps) o.others k (terms_in e) is)));
          count = (let a = ap length jk in
              let b = length-append ks (k ∷ []) in
              let c = h.count in
              omega (arith, a, b, c));
          few = (let a = h.few in omega (arith, a));
          over = h.over;
        }

    pub element_new : (In (terms_in e) (terms_each ps) → ⊥) → (q : FracPoly)
        → terms_in q ≡ terms_in e → q.arity ≡ e.arity → {next : List FracPoly}
        → next ≡ list ++ q ∷ [] → (js : List ℕ) → js ≡ ks ++ length list ∷ []
        → ElementsTo ps cs (i + 1) next js
    element_new n q same arity {next = next} nx js jk =
        let o = h.listed in
        let tail : terms_each next ≡ terms_each list ++ terms_in e ∷ [] =
        terms_more list q nx ∙ ap (λ y. terms_each list ++ y ∷ []) same in
        record {
          listed =
              subst (λ gs. IsListOf (terms_each ps) gs (terms_each next)) (sym more)
              (record {
                others = o.others ++ terms_in e ∷ [];
                are =
                    others_new (terms_each ps) (terms_in e) (terms_each (take i cs)) o.others
                    o.are n;
                is =
                    tail ∙ ap (λ xs. xs ++ terms_in e ∷ []) o.is
                    ∙ append_assoc (terms_each ps) o.others (terms_in e ∷ []);
              });
          stand =
              subst (λ gs. StandAt (terms_each next) gs js) (sym more)
              (subst (StandAt (terms_each next) (terms_each (take i cs) ++ terms_in e ∷ []))
              (sym jk)
              (stand_more (terms_each next) (terms_each (take i cs)) ks (terms_in e) (length list)
              taken
              (subst (λ bs. StandAt bs (terms_each (take i cs)) ks) (sym tail)
              (stand_longer (terms_each list) (terms_in e ∷ []) (terms_each (take i cs)) ks
              h.stand))
              (ap (λ xs. slice_get xs (length list)) tail
              ∙ last_at (terms_each list) (terms_in e) (length list)
              (sym (length-map list terms_in)))));
          count = (let a = ap length jk in
              let b = length-append ks (length list ∷ []) in
              let c = h.count in
              omega (arith, a, b, c));
          few = (let a = ap length nx in
              let b = length-append list (q ∷ []) in
              let c = h.few in
              omega (arith, a, b, c));
          over = λ m a b. over_more m list q (h.over m a b) (arity ∙ e_over m b) nx;
        }

-- ---- rows
pub set_over : (m : ℕ) (row : List FracPoly) (k : ℕ) (q : FracPoly) → AreOver m row
    → q.arity ≡ m → AreOver m (set row k q)
set_over m row k q a e = All-set (λ (p : FracPoly). p.arity ≡ m) row k q e a

pub zeros_more : (n : ℕ) (row more : List FracPoly) (q : FracPoly)
    → terms_each row ≡ replicate n [] → terms_in q ≡ [] → more ≡ row ++ q ∷ []
    → terms_each more ≡ replicate (n + 1) []
zeros_more n row more q h z is =
    terms_more row q is ∙ ap₂ (λ xs y. xs ++ y ∷ []) h z ∙ replicate_more n []

module _ (ks : List ℕ) (qs : List FracPoly) (n : ℕ) where
  pub record FilledTo (i : ℕ) (row : List FracPoly) : Type 0 where
    pub rest : filled (drop i ks) (drop i (terms_each qs)) (terms_each row)
        ≡ filled ks (terms_each qs) (replicate n [])
    pub width : length row ≡ n

  pub filled_more : (i k : ℕ) (p q : FracPoly) (row next : List FracPoly) → i < length ks
      → i < length qs → k ≡ get_or ks i k → p ≡ get_or qs i p → terms_in q ≡ terms_in p
      → next ≡ set row k q → FilledTo i row → FilledTo (i + 1) next
  filled_more i k p q row next l m at is same nx h = record {
    rest =
        let item : terms_in p ≡ get_or (terms_each qs) i (terms_in p) =
        ap terms_in is ∙ sym (get_or-map terms_in qs i p (terms_in p) m) in
        let there : terms_each next ≡ set (terms_each row) k (terms_in p) =
        ap terms_each nx ∙ map-set terms_in row k q
        ∙ ap (set (terms_each row) k) same in
        ap (filled (drop (i + 1) ks) (drop (i + 1) (terms_each qs))) there
        ∙ sym (filled_next ks (terms_each qs) (terms_each row) i k (terms_in p) l
        (let a = length-map qs terms_in in omega (arith, a, m)) at item)
        ∙ h.rest;
    width = (let a = ap length nx in
        let b = length-set row k q in
        let c = h.width in
        omega (arith, a, b, c));
  }

  pub filled_done : (i : ℕ) (row : List FracPoly) → length ks ≤ i → FilledTo i row
      → terms_each row ≡ filled ks (terms_each qs) (replicate n [])
  filled_done i row l h = sym (filled_over ks (terms_each qs) (terms_each row) i l) ∙ h.rest

pub row_placed : (m : ℕ) (closure : List FracPoly) (e : Elements) → FitsElements m closure e
    → (qs row : List FracPoly)
    → terms_each row ≡ filled e.places.items (terms_each qs) (replicate (length e.list.items) [])
    → terms_each row ≡ placed e.places.items (terms_each qs) (replicate (length e.list.items) [])
row_placed m closure e f qs row h =
    h ∙ filled_placed e.places.items (terms_each qs) _ (places_apart (terms_each e.list.items)
    (terms_each closure) e.places.items (length-map closure terms_in ∙ sym f.count) f.stand
    f.ascends) (λ k i. zeros_none (length e.list.items) k)
