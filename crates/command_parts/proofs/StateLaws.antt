-- The text of a state, entry by entry, and of states.
--   entries names s           the names with their values
--   joined es                 the entries with commas between them
--   entry_pushed              the text of the first entries, with one more
--   line_pushed               that of all, with the line's end
--   text_of names states      the states, one a line
--   state_pushed, states_pushed      the text of the first states, with one more, and that of all
use Rattle.std.proofs.Common.{◌≡◌, ℕ, suc, ◌+◌, ◌<◌, ◌≤◌, Bool, true, List, [], ◌∷◌, ◌++◌, map, length, take, get_or, sym, ap, ap₂, ◌∙◌, append_assoc, arith}
use Rattle.std.specs.Prelude.{codes, Some, nat_lt, slice_get}
use Rattle.std.specs.List.{join_by, flat_map, zip}
use Rattle.std.proofs.lemmas.Grind.{flat_map-append}
use Rattle.std.proofs.lemmas.List.{append-nil, map-append, take_more, take_all, length-take-le, length-map, get_or-map}
use Rattle.std.proofs.lemmas.Option.{get_or_from_slice_get}
use Rattle.std.proofs.lemmas.Slice.Zip.{length-zip, get_or-zip}
use Rattle.std.proofs.lemmas.Bool.Decides.{nat_tests}
use Rattle.algebra.specs.Fraction.{Fraction}
use Rattle.frac128.specs.declared.fraction.Frac.{Frac}
use Rattle.frac128.specs.FracMeaning.{fraction_of}
use Rattle.loop_runs.specs.Seen.{numbers_of}
use Rattle.std.specs.Prelude.{Vec}
use Rattle.std.specs.declared.alloc.Global.{Global}
use Rattle.io_edge.specs.Texts.{line}
use Rattle.command_parts.specs.StateTexts.{entry_text, separator, state_text, states_text}

abbrev pub entries : List (List ℕ) → List Frac → List (List ℕ × Fraction)
entries names s = zip names (numbers_of s)

abbrev pub joined : List (List ℕ × Fraction) → List ℕ
joined es = join_by entry_text (codes ", ") es

behind_first : (b : Bool) (n : ℕ) → nat_lt 0 (suc n) ≡ true
behind_first b n = grind (arith, nat_tests)

joined_more : (es : List (List ℕ × Fraction)) (e : List ℕ × Fraction)
    → joined (es ++ e ∷ []) ≡ joined es ++ separator (nat_lt 0 (length es)) ++ entry_text e
joined_more [] e = append-nil (entry_text e)
joined_more (d ∷ es) e =
    ap (λ t. entry_text d ++ t) (flat_map-append (λ y. codes ", " ++ entry_text y) es (e ∷ []))
    ∙ (ap (λ t. entry_text d ++ (flat_map (λ y. codes ", " ++ entry_text y) es ++ t))
    (append-nil (codes ", " ++ entry_text e))
    ∙ rw (behind_first true (length es)) (simp append_assoc))

length-entries : (names : List (List ℕ)) (s : List Frac) → length s ≡ length names
    → length (entries names s) ≡ length s
length-entries names s sizes =
    omega (arith, length-zip names (numbers_of s), length-map s fraction_of)

entry_at : (names : List (List ℕ)) (s : List Frac) (i : ℕ) (name : List ℕ) (x : Frac)
    → length s ≡ length names → i < length s → slice_get names i ≡ Some name → x ≡ get_or s i x
    → get_or (entries names s) i (name, fraction_of x) ≡ (name, fraction_of x)
entry_at names s i name x sizes within is at =
    get_or-zip names (numbers_of s) i (name, fraction_of x) (omega arith)
    (omega (arith, length-map s fraction_of))
    ∙ ap₂ (λ n v. (n, v)) (get_or_from_slice_get names i name name is)
    (get_or-map fraction_of s i x (fraction_of x) within ∙ ap fraction_of (sym at))

entry_more : (names : List (List ℕ)) (s : List Frac) (i : ℕ) (name : List ℕ) (x : Frac)
    → length s ≡ length names → i < length s → slice_get names i ≡ Some name → x ≡ get_or s i x
    → joined (take (i + 1) (entries names s)) ≡ joined (take i (entries names s)) ++ separator
    (nat_lt 0 i) ++ entry_text (name, fraction_of x)
entry_more names s i name x sizes within is at =
    let long = length-entries names s sizes in
    let more : take (i + 1) (entries names s) ≡ take i
    (entries names s) ++ (name, fraction_of x) ∷ [] =
    take_more (entries names s) i (name, fraction_of x) (omega arith)
    ∙ ap (λ e. take i (entries names s) ++ e ∷ [])
    (entry_at names s i name x sizes within is at) in
    ap joined more
    ∙ (joined_more (take i (entries names s)) (name, fraction_of x)
    ∙ ap (λ n. joined (take i (entries names s)) ++ separator (nat_lt 0 n) ++ entry_text
    (name, fraction_of x)) (length-take-le i (entries names s) (omega arith)))

pub entry_pushed : (start text more : List ℕ) (names : List (List ℕ)) (s : List Frac) (i : ℕ)
    (name : List ℕ) (x : Frac) → length s ≡ length names → i < length s
    → slice_get names i ≡ Some name → x ≡ get_or s i x
    → text ≡ start ++ joined (take i (entries names s))
    → more ≡ text ++ separator (nat_lt 0 i) ++ entry_text (name, fraction_of x)
    → more ≡ start ++ joined (take (i + 1) (entries names s))
entry_pushed start text more names s i name x sizes within is at before pushed =
    let e = entry_more names s i name x sizes within is at in
    pushed ∙ rw (before, e) (simp append_assoc)

pub joined_all : (names : List (List ℕ)) (s : List Frac) (i : ℕ) → length s ≡ length names
    → length s ≤ i → joined (take i (entries names s)) ≡ state_text names (numbers_of s)
unfolding state_text
joined_all names s i sizes all =
    ap joined (take_all i (entries names s) (omega (arith, length-entries names s sizes)))

pub line_pushed : (start text more : List ℕ) (names : List (List ℕ)) (s : List Frac) (i : ℕ)
    → length s ≡ length names → length s ≤ i
    → text ≡ start ++ joined (take i (entries names s)) → more ≡ text ++ codes "\n"
    → more ≡ start ++ line (state_text names (numbers_of s))
line_pushed start text more names s i sizes all before pushed =
    pushed ∙ rw (before, joined_all names s i sizes all) (simp append_assoc)

-- ---- the states of a run
abbrev pub text_of : List (List ℕ) → List (Vec Frac Global) → List ℕ
text_of names states = states_text names (map (λ s. numbers_of s.items) states)

text_more : (names : List (List ℕ)) (states : List (Vec Frac Global)) (i : ℕ) (s : Vec Frac Global)
    → i < length states → s ≡ get_or states i s
    → text_of names (take (i + 1) states)
    ≡ text_of names (take i states) ++ line (state_text names (numbers_of s.items))
text_more names states i s within at =
    ap (λ xs. text_of names xs)
    (take_more states i s within ∙ ap (λ x. take i states ++ x ∷ []) (sym at))
    ∙ ap (λ xs. states_text names xs)
    (map-append (λ (s : Vec Frac Global). numbers_of s.items) (take i states) (s ∷ []))
    ∙ flat_map-append (λ s. line (state_text names s))
    (map (λ (s : Vec Frac Global). numbers_of s.items) (take i states)) (numbers_of s.items ∷ [])
    ∙ ap (λ t. text_of names (take i states) ++ t)
    (append-nil (line (state_text names (numbers_of s.items))))

pub state_pushed : (start text more : List ℕ) (names : List (List ℕ))
    (states : List (Vec Frac Global)) (i : ℕ) (s : Vec Frac Global) → i < length states
    → s ≡ get_or states i s → text ≡ start ++ text_of names (take i states)
    → more ≡ text ++ line (state_text names (numbers_of s.items))
    → more ≡ start ++ text_of names (take (i + 1) states)
state_pushed start text more names states i s within at before pushed =
    pushed
    ∙ ap (λ t. t ++ line (state_text names (numbers_of s.items))) before
    ∙ append_assoc start (text_of names (take i states))
    (line (state_text names (numbers_of s.items)))
    ∙ ap (λ t. start ++ t) (sym (text_more names states i s within at))

pub states_pushed : (start text : List ℕ) (names : List (List ℕ))
    (states : List (Vec Frac Global)) (i : ℕ) → length states ≤ i
    → text ≡ start ++ text_of names (take i states) → text ≡ start ++ text_of names states
states_pushed start text names states i all before =
    before ∙ ap (λ xs. start ++ text_of names xs) (take_all i states all)
