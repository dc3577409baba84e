-- What was shown and what is left, and where an editor stops.
use Rattle.std.proofs.Common.{◌≡◌, ◌⊎◌, inl, inr, ℕ, zero, suc, min, length-drop, ◌+◌, ◌<◌, ◌≤◌, false, cond, not, List, [], ◌∷◌, ◌++◌, length, map, filter, take, drop, get_or, Option, Some, None, refl, sym, ap, subst, ◌∙◌, append_assoc, append-nil, add-one, drop-cons, arith}
use Rattle.std.proofs.lemmas.List.{take_min, drop_all}
use Rattle.std.proofs.lemmas.Bool.{cases_lt}
use Rattle.std.specs.Prelude.{IfErr, Result, Ok, Err}
use Rattle.std.specs.FinMap as finite
use Rattle.node_base.specs.Path.{Name}
use Rattle.node_base.specs.Entries.{Entries}
use Rattle.node_base.specs.Props.{PropMap}
use Rattle.delta_editor.specs.declared.call.Call.{Call}
use Rattle.delta_editor.specs.Calls.{Adds, Refused}
use Rattle.delta_editor.specs.declared.fault.EditorFault.{EditorFault}
use Rattle.editor_ends.specs.Parts.{removals, settings, pieces_of, pieces}
use Rattle.editor_ends.specs.Shown.{Shown, Stops}

-- ---- what was shown

pub shown_twice : {E : Type 0} (shows : E → List Call → Type 0) (a b c : E) (x y z : List Call) → Shown shows a b x y → Shown shows b c y z → Shown shows a c x z
shown_twice shows a b c x y z s t =
    record {
      more = s.more ++ t.more;
      adds = λ calls h. subst (shows c) (append_assoc calls s.more t.more) (t.adds (calls ++ s.more) (s.adds calls h));
      is = s.is ∙ ap (λ r. s.more ++ r) t.is ∙ sym (append_assoc s.more t.more z);
    }

pub shown_adds : {E : Type 0} (shows : E → List Call → Type 0) (a b : E) (more x y : List Call) → Adds shows a b more → x ≡ more ++ y → Shown shows a b x y
shown_adds shows a b more x y adds is = record { more = more; adds = adds; is = is }

pub shown_all : {E : Type 0} (shows : E → List Call → Type 0) (a b : E) (x y : List Call) → Shown shows a b x y → y ≡ [] → Adds shows a b x
shown_all shows a b x y s e calls h = subst (λ l. shows b (calls ++ l)) (sym (s.is ∙ ap (λ z. s.more ++ z) e ∙ append-nil s.more)) (s.adds calls h)

-- one call more
pub shown_one : {E : Type 0} (shows : E → List Call → Type 0) (a b c : E) (x y z : List Call) (one : Call) → Shown shows a b x y → Adds shows b c (one ∷ []) → y ≡ one ∷ z → Shown shows a c x z
shown_one shows a b c x y z one s adds is = shown_twice shows a b c x y z s (shown_adds shows b c (one ∷ []) y z adds is)

-- ---- where an editor stops

module _ {E O : Type 0} (shows : E → List Call → Type 0) (began : E → O) (refuses : O → List Call → Call → EditorFault → Type 0) where
  -- at the first call that is left
  pub stops_first : (e : E) (c : Call) (rest left : List Call) (f : EditorFault) → Refused shows began refuses e c f → left ≡ c ∷ rest → Stops shows began refuses e left f
  stops_first e c rest left f h is = record { front = []; refused = c; rest = rest; is = is; cause = λ calls s. subst (λ l. refuses (began e) l c f) (sym (append-nil calls)) (h calls s) }

  -- behind what was shown
  pub stops_later : (a b : E) (more tail left : List Call) (f : EditorFault) → Adds shows a b more → began b ≡ began a → Stops shows began refuses b tail f → left ≡ more ++ tail → Stops shows began refuses a left f
  stops_later a b more tail left f adds same s is =
      record {
        front = more ++ s.front;
        refused = s.refused;
        rest = s.rest;
        is = is ∙ ap (λ l. more ++ l) s.is ∙ sym (append_assoc more s.front (s.refused ∷ s.rest));
        cause = λ calls h. subst (λ l. refuses (began a) l s.refused f) (append_assoc calls more s.front) (subst (λ o. refuses o ((calls ++ more) ++ s.front) s.refused f) same (s.cause (calls ++ more) (adds calls h)));
      }

  pub stops_behind : (a b : E) (x y : List Call) (f : EditorFault) → Shown shows a b x y → began b ≡ began a → Stops shows began refuses b y f → Stops shows began refuses a x f
  stops_behind a b x y f s same t = stops_later a b s.more y x f s.adds same t s.is

  -- with more that is left behind it
  pub stops_before : (e : E) (front rest left : List Call) (f : EditorFault) → Stops shows began refuses e front f → left ≡ front ++ rest → Stops shows began refuses e left f
  stops_before e front rest left f s is =
      record {
        front = s.front;
        refused = s.refused;
        rest = s.rest ++ rest;
        is = is ∙ ap (λ l. l ++ rest) s.is ∙ append_assoc s.front (s.refused ∷ s.rest) rest;
        cause = s.cause;
      }

  -- ---- for a result

  -- at the first call that is left
  pub stop_here : {A : Type 0} (e : E) (c : Call) (rest : List Call) (r : Result A EditorFault) → IfErr r (Refused shows began refuses e c) → IfErr r (Stops shows began refuses e (c ∷ rest))
  stop_here e c rest (Ok x) h = tt
  stop_here e c rest (Err f) h = stops_first e c rest (c ∷ rest) f h refl

  -- in what comes first
  pub stop_before : {A : Type 0} (e : E) (front rest : List Call) (r : Result A EditorFault) → IfErr r (Stops shows began refuses e front) → IfErr r (Stops shows began refuses e (front ++ rest))
  stop_before e front rest (Ok x) h = tt
  stop_before e front rest (Err f) h = stops_before e front rest (front ++ rest) f h refl

  -- in what comes behind what was shown
  pub stop_later : {A : Type 0} (a b : E) (more tail : List Call) (r : Result A EditorFault) → Adds shows a b more → began b ≡ began a → IfErr r (Stops shows began refuses b tail) → IfErr r (Stops shows began refuses a (more ++ tail))
  stop_later a b more tail (Ok x) adds same h = tt
  stop_later a b more tail (Err f) adds same h = stops_later a b more tail (more ++ tail) f adds same h refl

  -- behind one call that was shown
  pub stop_next : {A : Type 0} (a b : E) (c : Call) (tail : List Call) (r : Result A EditorFault) → Adds shows a b (c ∷ []) → began b ≡ began a → IfErr r (Stops shows began refuses b tail) → IfErr r (Stops shows began refuses a (c ∷ tail))
  stop_next a b c tail = stop_later a b (c ∷ []) tail

  -- the same for a fault
  pub stopped_before : (e : E) (front rest : List Call) (f : EditorFault) → Stops shows began refuses e front f → Stops shows began refuses e (front ++ rest) f
  stopped_before e front rest f h = stops_before e front rest (front ++ rest) f h refl

  pub stopped_later : (a b : E) (more tail : List Call) (f : EditorFault) → Adds shows a b more → began b ≡ began a → Stops shows began refuses b tail f → Stops shows began refuses a (more ++ tail) f
  stopped_later a b more tail f adds same h = stops_later a b more tail (more ++ tail) f adds same h refl

  -- at the last call of a file, and before it
  pub stop_last : {A : Type 0} (a b e : E) (opening props text : List Call) (last : Call) (r : Result A EditorFault) → Adds shows a b opening → began b ≡ began a → Adds shows b e (props ++ text) → began e ≡ began b → IfErr r (Refused shows began refuses e last)
      → IfErr r (Stops shows began refuses a (opening ++ (props ++ (text ++ last ∷ []))))
  stop_last a b e opening props text last r one over1 two over2 h =
      stop_later a b opening (props ++ (text ++ last ∷ [])) r one over1
      (subst (λ l. IfErr r (Stops shows began refuses b l)) (append_assoc props text (last ∷ [])) (stop_later b e (props ++ text) (last ∷ []) r two over2 (stop_here e last [] r h)))

  pub stopped_middle : (a b : E) (opening props text : List Call) (last : Call) (f : EditorFault) → Adds shows a b opening → began b ≡ began a → Stops shows began refuses b (props ++ text) f
      → Stops shows began refuses a (opening ++ (props ++ (text ++ last ∷ []))) f
  stopped_middle a b opening props text last f one over1 s =
      stopped_later a b opening (props ++ (text ++ last ∷ [])) f one over1 (subst (λ l. Stops shows began refuses b l f) (append_assoc props text (last ∷ [])) (stopped_before b (props ++ text) (last ∷ []) f s))

-- ---- properties

-- what is left from the i-th entry on
module _ {X : Type 0} (es : List X) (i : ℕ) (x : X) (here : i < length es) (is : x ≡ get_or es i x) where
  pub rest_is : drop i es ≡ x ∷ drop (i + 1) es
  rest_is = rw (add-one i) (drop-cons es i x here ∙ ap (λ y. y ∷ drop (suc i) es) (sym is))

module _ (prop : Name → Option (List ℕ) → Call) (es : Entries) (i : ℕ) (e : Name × List ℕ) (here : i < length es) (is : e ≡ get_or es i e) where
  pub settings_step : settings prop (drop i es) ≡ prop e.0 (Some e.1) ∷ settings prop (drop (i + 1) es)
  settings_step = ap (settings prop) (rest_is es i e here is)

  pub removals_step : (new : PropMap) → finite.contains_key new e.0 ≡ false → removals prop new (drop i es) ≡ prop e.0 None ∷ removals prop new (drop (i + 1) es)
  removals_step new gone = ap (removals prop new) (rest_is es i e here is) ∙ ap (λ b. map (λ e. prop e.0 None) (cond (not b) (e ∷ filter (λ e. not (finite.contains_key new e.0)) (drop (i + 1) es)) (filter (λ e. not (finite.contains_key new e.0)) (drop (i + 1) es)))) gone

-- ---- texts

-- how long a text may be makes no difference to its pieces, where it is long enough
pub pieces_enough : (j k : ℕ) (t : List ℕ) → length t ≤ j → length t ≤ k → pieces_of j t ≡ pieces_of k t
pieces_enough zero zero [] l m = refl
pieces_enough zero (suc k) [] l m = refl
pieces_enough (suc j) zero [] l m = refl
pieces_enough (suc j) (suc k) [] l m = refl
pieces_enough zero k (b ∷ t) l m = absurd (omega (arith, l))
pieces_enough (suc j) zero (b ∷ t) l m = absurd (omega (arith, m))
pieces_enough (suc j) (suc k) (b ∷ t) l m = ap (λ z. take 65536 (b ∷ t) ∷ z) (pieces_enough j k (drop 65536 (b ∷ t)) (omega (arith, l, length-drop 65536 (b ∷ t))) (omega (arith, m, length-drop 65536 (b ∷ t))))

-- as many as there are at most
min_swap : (a b n : ℕ) → n ≡ min a b → min b a ≡ n
min_swap a b n is = omega (arith, is)

taken : (t : List ℕ) (n : ℕ) → n ≡ min (length t) 65536 → take 65536 t ≡ take n t
taken t n is = sym (take_min 65536 t) ∙ ap (λ k. take k t) {x = min 65536 (length t)} {y = n} (min_swap (length t) 65536 n is)

dropped : (t : List ℕ) (n : ℕ) → n ≡ min (length t) 65536 → drop 65536 t ≡ drop n t
dropped t n is = by (cases_lt (length t) 65536)
  where
    by : (length t < 65536) ⊎ (65536 ≤ length t) → drop 65536 t ≡ drop n t
    by (inl less) = drop_all 65536 t (omega (arith, less)) ∙ sym (drop_all n t (omega (arith, less, is)))
    by (inr more) = ap (λ k. drop k t) {x = 65536} {y = n} (omega (arith, more, is))

-- the first piece, and the others
pub pieces_step : (t piece rest : List ℕ) (n : ℕ) → 0 < length t → n ≡ min (length t) 65536 → piece ≡ take n t → rest ≡ drop n t → pieces t ≡ piece ∷ pieces rest
pieces_step [] piece rest n some is p r = absurd (omega (arith, some))
pieces_step (b ∷ t) piece rest n some is p r =
    (λ i. front i ∷ back i)
  where
    front : take 65536 (b ∷ t) ≡ piece
    front = taken (b ∷ t) n is ∙ sym p

    back : pieces_of (length t) (drop 65536 (b ∷ t)) ≡ pieces rest
    back =
        ap (pieces_of (length t)) (dropped (b ∷ t) n is ∙ sym r)
        ∙ pieces_enough (length t) (length rest) rest (omega (arith, ap length r, length-drop n (b ∷ t), is, some)) (omega arith)
