-- What comes of more changes than two for each path that a set may have.
use Rattle.std.proofs.Common.{◌≡◌, ℕ, zero, suc, ◌+◌, ◌≤◌, ◌<◌, Bool, true, false, cond, not, ◌&&◌, ◌||◌, List, [], ◌∷◌, ◌++◌, length, map, Some, None, refl, sym, ap, ◌∙◌, arith, append-nil, inl, inr}
use Rattle.std.specs.Option.{is_none, option_map_or}
use Rattle.std.specs.List.{list_any, filter}
use Rattle.std.specs.FinMap as finite
use Rattle.std.proofs.lemmas.Bool.{true≢false, cases_lt, lt-ltb, le-ltb}
use Rattle.std.proofs.lemmas.List.Filters.{length-filter_both}
use Rattle.std.proofs.lemmas.List.Folds.{list_any-append}
use Rattle.node_base.specs.Path.{Path, path_cmp, paths_total, paths_exact, same_path, is_front}
use Rattle.node_base.proofs.PathLemmas.{path_of_same, same_path_back, same_path_itself}
use Rattle.dump_load.specs.declared.change.Change.{Change}
use Rattle.dump_load.specs.declared.fault.ChangeFault.TheVariants.{TooLong, OutOfOrder, BadHeader}
use Rattle.dump_load.specs.Changes.{is_delete}
use Rattle.dump_load.specs.Faults.{fault_if, first_of}
use Rattle.dump_load.specs.Records.{stated_at, combined, stated, paths_named, is_out_of_order, leaves_unsaid, set_fault}
use Rattle.dump_load.proofs.Moved.{named_at, paths_more}
use Rattle.dump_load.proofs.Combining.{any_named}
use Rattle.dump_load.proofs.Counting.{too_many}

-- ---- changes of one path and the others

-- the changes of other paths
abbrev others : Path → List Change → List Change
others p cs = filter (λ d. not (same_path d.path p)) cs

alike_named : (cs ys : List Change) → ((q : Path) → list_any (λ c. same_path q c.path) ys ≡ list_any (λ c. same_path q c.path) cs) → paths_named ys ≡ paths_named cs
alike_named cs ys same =
    ap finite.len
    (finite.same_map paths_total paths_exact (finite.from_entries {R = path_cmp} (map (λ c. (c.path, true)) ys)) (finite.from_entries {R = path_cmp} (map (λ c. (c.path, true)) cs))
    (λ q. named_at ys q ∙ ap (λ b. cond b (Some true) None) (same q) ∙ sym (named_at cs q)))

named_others : (c : Change) (cs : List Change) (q : Path) → list_any (λ d. same_path q d.path) (others c.path cs ++ c ∷ []) ≡ (same_path q c.path || list_any (λ d. same_path q d.path) cs)
named_others c cs q = list_any-append (λ d. same_path q d.path) (others c.path cs) (c ∷ []) ∙ last cs
  where
    twice : (a b : Bool) → (a || b) ≡ (a || (a || b))
    twice true b = refl
    twice false b = refl

    between : (s m a r : Bool) → (m || (a || false)) ≡ (a || r) → ((s || m) || (a || false)) ≡ (a || (s || r))
    between true m true r e = refl
    between true m false r e = refl
    between false m a r e = e

    last : (cs : List Change) → (list_any (λ d. same_path q d.path) (others c.path cs) || (same_path q c.path || false)) ≡ (same_path q c.path || list_any (λ d. same_path q d.path) cs)
    last [] = refl
    last (d ∷ cs) =
        let any = λ (xs : List Change). list_any (λ d. same_path q d.path) xs in
        elim (same_path d.path c.path) as (λ b. same_path d.path c.path ≡ b → (list_any (λ d. same_path q d.path) (cond (not b) (d ∷ others c.path cs) (others c.path cs)) || (same_path q c.path || false)) ≡ (same_path q c.path || (same_path q d.path || list_any (λ d. same_path q d.path) cs))) [
          | true ↦ λ e. last cs ∙ twice (same_path q c.path) (any cs) ∙ ap (λ p. same_path q c.path || (same_path q p || any cs)) (sym (path_of_same d.path c.path e))
          | false ↦ λ e. between (same_path q d.path) (any (others c.path cs)) (same_path q c.path) (any cs) (last cs)
        ] refl

none_other : (p : Path) (cs : List Change) → list_any (λ d. same_path p d.path) (others p cs) ≡ false
none_other p [] = refl
none_other p (d ∷ cs) =
    elim (same_path d.path p) as (λ b. same_path d.path p ≡ b → list_any (λ d. same_path p d.path) (cond (not b) (d ∷ others p cs) (others p cs)) ≡ false) [
      | true ↦ λ e. none_other p cs
      | false ↦ λ e. ap (λ b. b || list_any (λ d. same_path p d.path) (others p cs)) (same_path_back p d.path ∙ e) ∙ none_other p cs
    ] refl

-- the others name a path less
named_rest : (c : Change) (cs : List Change) → paths_named (c ∷ cs) ≡ paths_named (others c.path cs) + 1
named_rest c cs =
    alike_named (others c.path cs ++ c ∷ []) (c ∷ cs) (λ q. sym (named_others c cs q))
    ∙ paths_more (others c.path cs) c
    ∙ ap (λ b. cond b (paths_named (others c.path cs)) (paths_named (others c.path cs) + 1)) (none_other c.path cs)

-- ---- two changes of a path at most

one_more : (P : Change → Bool) (c : Change) (cs : List Change) → length (filter P cs) ≤ length (filter P (c ∷ cs))
one_more P c cs = elim (P c) as (λ b. length (filter P cs) ≤ length (cond b (c ∷ filter P cs) (filter P cs))) [ true ↦ omega arith | false ↦ omega arith ]

fewer : (P Q : Change → Bool) (cs : List Change) → length (filter P (filter Q cs)) ≤ length (filter P cs)
fewer P Q [] = omega arith
fewer P Q (c ∷ cs) =
    let rest = fewer P Q cs in
    let more = one_more P c cs in
    elim (Q c) as (λ b. length (filter P (cond b (c ∷ filter Q cs) (filter Q cs))) ≤ length (filter P (c ∷ cs))) [
      | true ↦
          elim (P c) as (λ b. length (cond b (c ∷ filter P (filter Q cs)) (filter P (filter Q cs))) ≤ length (cond b (c ∷ filter P cs) (filter P cs))) [ true ↦ omega (arith, rest) | false ↦ rest ]
      | false ↦ omega (arith, rest, more)
    ]

-- then there are two for each path that is named at most
two_each : (n : ℕ) (cs : List Change) → length cs ≤ n → ((p : Path) → length (stated_at cs p) ≤ 2) → length cs ≤ paths_named cs + paths_named cs
two_each n [] h two = omega arith
two_each zero (c ∷ cs) h two = absurd (omega (arith, h))
two_each (suc n) (c ∷ cs) h two =
    let ys = others c.path cs in
    let both : length (stated_at (c ∷ cs) c.path) + length (others c.path (c ∷ cs)) ≡ length (c ∷ cs) =
    length-filter_both (λ d. same_path d.path c.path) (λ d. not (same_path d.path c.path)) (λ d. refl) (c ∷ cs) in
    let own : others c.path (c ∷ cs) ≡ ys = ap (λ b. cond (not b) (c ∷ ys) ys) (same_path_itself c.path) in
    let here : stated_at (c ∷ cs) c.path ≡ c ∷ stated_at cs c.path = ap (λ b. cond b (c ∷ stated_at cs c.path) (stated_at cs c.path)) (same_path_itself c.path) in
    let rest : length ys ≤ paths_named ys + paths_named ys =
    two_each n ys (omega (arith, both, ap length own, ap length here, h))
    (λ p. omega (arith, two p, one_more (λ d. same_path d.path p) c cs, fewer (λ d. same_path d.path p) (λ d. not (same_path d.path c.path)) cs)) in
    omega (arith, both, ap length own, two c.path, rest, named_rest c cs)

-- ---- three changes of a path

not_two : (xs : List Change) → 2 < length xs → combined xs ≡ None
not_two [] h = absurd (omega (arith, h))
not_two (x ∷ []) h = absurd (omega (arith, h))
not_two (x ∷ y ∷ []) h = absurd (omega (arith, h))
not_two (x ∷ y ∷ z ∷ xs) h = refl

three : (cs : List Change) (p : Path) → 2 < length (stated_at cs p) → is_out_of_order cs ≡ true
three cs p h =
    let under = λ (q : Path). list_any (λ d. is_front d.path q && not (same_path d.path q) && option_map_or (λ e. is_delete e.action) (stated cs d.path) false) cs in
    let Q = λ (q : Path). is_none (stated cs q) || under q in
    sym (ap (list_any (λ d. Q d.path)) (append-nil cs))
    ∙ any_named Q cs [] p (λ e. absurd (omega (arith, h, ap length e))) (ap (λ o. is_none o || under p) (not_two (stated_at cs p) h))

-- more changes than two for each of 4,096 paths
crowded : (cs : List Change) → 8192 < length cs → paths_named cs ≤ 4096 → is_out_of_order cs ≡ true
crowded cs long few =
    elim (is_out_of_order cs) as (λ b. is_out_of_order cs ≡ b → b ≡ true) [
      | true ↦ λ e. refl
      | false ↦ λ e. absurd (omega (arith, long, few, two_each (length cs) cs (omega arith) (two e)))
    ] refl
  where
    two : is_out_of_order cs ≡ false → (p : Path) → length (stated_at cs p) ≤ 2
    two e p = elim (cases_lt 2 (length (stated_at cs p))) [ inl l ↦ absurd (true≢false (sym (three cs p l) ∙ e)) | inr l ↦ l ]

pub past_paths : (cs : List Change) → 4096 < paths_named cs → set_fault cs ≡ Some TooLong
past_paths cs h = too_many cs (lt-ltb 4096 (paths_named cs) h)

pub past_records : (cs : List Change) → 8192 < length cs → paths_named cs ≤ 4096 → set_fault cs ≡ Some OutOfOrder
past_records cs long few =
    let fits = le-ltb 4096 (paths_named cs) few in
    let late = crowded cs long few in
    λ i. first_of (fault_if (fits i) TooLong ∷ fault_if (late i) OutOfOrder ∷ fault_if (leaves_unsaid cs) BadHeader ∷ [])
