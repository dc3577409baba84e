-- The turns of a reading session, one after another.
use Rattle.std.proofs.Common.{◌≡◌, ◌≢◌, ◌≤◌, ◌+◌, ℕ, ◌⊎◌, inl, inr, Bool, true, List, [], ◌∷◌, ◌++◌, map, Option, Some, None, refl, sym, ap, subst, ◌∙◌, append_assoc, append-nil, arith}
use Rattle.std.proofs.KnownBytes.{Appends-nil, Appends-trans}
use Rattle.std.proofs.lemmas.List.{map-append}
use Rattle.std.specs.Io.KnownBytes.{Appends}
use Rattle.byte_streams.specs.Causes.{RoseBy}
use Rattle.fleet_disk.specs.Rules.{Rose}
use Rattle.ra_item.specs.Items.{Item}
use Rattle.ra_item.specs.Streams.{Stream}
use Rattle.ra_item.specs.ItemStreams.{Takes, Ends}
use Rattle.ra_item.proofs.Streaming.{takes_none, takes_more, takes_end, takes_stop}
use Rattle.ra_item.specs.declared.fault.ItemFault.{ItemFault}
use Rattle.ra_item.specs.declared.fault.ItemFault.TheVariants as fault
use Rattle.ra_item.specs.declared.fault.NextFault.TheVariants as next
use Rattle.repo_core.specs.Repository.{Repository}
use Rattle.browse_wire.specs.Urls.{Url}
use Rattle.ra_serve.specs.declared.fault.PortFault.{PortFault}
use Rattle.ra_serve.specs.Serving.{EndsAt, HasFault, no_failure, any, none}
use Rattle.ra_serve.specs.declared.fault.End as declared
use Rattle.ra_serve.specs.declared.fault.End.TheVariants as end
use Rattle.ra_denial.specs.Halts.{IsCalm, halts_in}
use Rattle.ra_browse.specs.Histories.{Nothing}
use Rattle.ra_reader.specs.Standings.{Standing, Added, ready_at}
use Rattle.ra_reader.specs.Sessions.{Turn, answer_to, stands_behind, answers, stands, Has, AllHave, halts}
use Rattle.ra_reader.specs.Serving.{Browses, all, all_have, answers_at}
use Rattle.ra_reader.specs.Takings.{Turned}

-- ---- one turn more

answers_more : (x : Repository) (at : Standing) (ts : List Turn) (t : Turn) → answers x at (ts ++ t ∷ []) ≡ answers x at ts ++ answer_to x (stands at ts) t
answers_more x at [] t = append-nil (answer_to x at t)
answers_more x at (s ∷ ts) t = ap (λ l. answer_to x at s ++ l) (answers_more x (stands_behind at s) ts t) ∙ sym (append_assoc (answer_to x at s) (answers x (stands_behind at s) ts) (answer_to x (stands (stands_behind at s) ts) t))

stands_more : (at : Standing) (ts : List Turn) (t : Turn) → stands at (ts ++ t ∷ []) ≡ stands_behind (stands at ts) t
stands_more at [] t = refl
stands_more at (s ∷ ts) t = stands_more (stands_behind at s) ts t

have_more : (x : Repository) (at : Standing) (ts : List Turn) (t : Turn) → AllHave x at ts → Has x (stands at ts) t → AllHave x at (ts ++ t ∷ [])
have_more x at [] t h m = (m, tt)
have_more x at (s ∷ ts) t h m = (h.0, have_more x (stands_behind at s) ts t h.1 m)

halts_more : (ts : List Turn) (t : Turn) → halts (ts ++ t ∷ []) ≡ halts ts + halts_in t.added.halt
halts_more [] t = omega arith
halts_more (s ∷ ts) t = let e = halts_more ts t in omega (arith, e)

rose_more : (k p m n : ℕ) (o : Option PortFault) → m ≤ n → RoseBy k p m → IsCalm o ⊎ Rose m n → RoseBy (k + halts_in o) p n
rose_more k p m n o h (inr r) c = inr (omega (arith, h, r))
rose_more k p m n None h (inl r) c = inl (omega (arith, h, r))
rose_more k p m n (Some x) h (inl r) (inl c) = absurd c
rose_more k p m n (Some x) h (inl r) (inr (inl s)) = inl (omega (arith, r, s))
rose_more k p m n (Some x) h (inl r) (inr (inr s)) = inr s

counted_more : (ts : List Turn) (t : Turn) (p m n : ℕ) → m ≤ n → RoseBy (halts ts) p m → IsCalm t.added.halt ⊎ Rose m n → RoseBy (halts (ts ++ t ∷ [])) p n
counted_more ts t p m n k r c = subst (λ j. RoseBy j p n) (sym (halts_more ts t)) (rose_more (halts ts) p m n t.added.halt k r c)

-- items so far: these turns were taken and answered, and here they led
pub record Going (x : Repository) (at here : Standing) (p n : ℕ) (told now : Option (List ℕ)) (before after : Option (List ℕ)) (was is : List ℕ → Stream) : Type 0 where
  pub turns : List Turn
  pub found : AllHave x at turns
  pub counted : RoseBy (halts turns) p n
  pub bytes : Appends told now (answers x at turns)
  pub led : here ≡ stands at turns
  pub taken : Takes (map (λ t. t.item) turns) before after was is

pub going_start : (x : Repository) (at : Standing) (p : ℕ) (told : Option (List ℕ)) (before : Option (List ℕ)) (was : List ℕ → Stream) → Going x at at p p told told before before was was
going_start x at p told before was = record {
  turns = [];
  found = tt;
  counted = inl (omega arith);
  bytes = Appends-nil told;
  led = refl;
  taken = takes_none before was;
}

pub going_more : (x : Repository) (at here there : Standing) (p m n : ℕ) (told mid now : Option (List ℕ)) (before amid after : Option (List ℕ)) (was then is : List ℕ → Stream) (item : Item)
    → m ≤ n
    → Going x at here p m told mid before amid was then
    → Takes (item ∷ []) amid after then is
    → Turned x here item (Rose m n) mid now there
    → Going x at there p n told now before after was is
going_more x at here there p m n told mid now before amid after was then is item k g taken a =
    let t : Turn = record { item = item; added = a.added } in
    let told_here : Appends mid now (answer_to x (stands at g.turns) t) = subst (λ s. Appends mid now (answer_to x s t)) g.led a.bytes in
    record {
      turns = g.turns ++ t ∷ [];
      found = have_more x at g.turns t g.found (subst (λ s. Has x s t) g.led a.has);
      counted = counted_more g.turns t p m n k g.counted a.counted;
      bytes = subst (Appends told now) (sym (answers_more x at g.turns t)) (Appends-trans told mid now (answers x at g.turns) (answer_to x (stands at g.turns) t) g.bytes told_here);
      led = a.led ∙ ap (λ s. stands_behind s t) g.led ∙ sym (stands_more at g.turns t);
      taken = subst (λ xs. Takes xs before after was is) (sym (map-append (λ (u : Turn). u.item) g.turns (t ∷ []))) (takes_more (map (λ (u : Turn). u.item) g.turns) (item ∷ []) before amid after was then is g.taken taken);
    }

-- ---- the end of the commands

browses : (x : Repository) (at : Url) (here : Standing) (p n : ℕ) (told now : Option (List ℕ)) (before amid after : Option (List ℕ)) (was then is : List ℕ → Stream) (spent : Bool) (e : declared.End)
    → (g : Going x (ready_at at) here p n told now before amid was then)
    → EndsAt any none (map (λ t. t.item) g.turns) before after was is spent e
    → Browses (answers_at at x) (all_have at x) all any none p n told now before after was is spent e
browses x at here p n told now before amid after was then is spent e g ends = record {
  turns = g.turns;
  found = g.found;
  counted = g.counted;
  bytes = g.bytes;
  ends = ends;
}

pub commands_end : (x : Repository) (at : Url) (here : Standing) (p n : ℕ) (told now : Option (List ℕ)) (before amid after : Option (List ℕ)) (was then is : List ℕ → Stream) (spent : Bool)
    → Going x (ready_at at) here p n told now before amid was then
    → Ends [] true amid after then
    → Browses (answers_at at x) (all_have at x) all any none p n told now before after was is spent end.Input
commands_end x at here p n told now before amid after was then is spent g e =
    browses x at here p n told now before amid after was then is spent end.Input g
    (refl, subst (λ xs. Ends xs true before after was) (append-nil (map (λ (t : Turn). t.item) g.turns)) (takes_end (map (λ (t : Turn). t.item) g.turns) [] true before amid after was then g.taken e))

pub commands_stop : (x : Repository) (at : Url) (here : Standing) (p n : ℕ) (told now : Option (List ℕ)) (before amid after : Option (List ℕ)) (was then is : List ℕ → Stream) (spent spent_now : Bool) (f : ItemFault)
    → Going x (ready_at at) here p n told now before amid was then
    → (spent_now ≡ true → spent ≡ true)
    → HasFault [] amid after then spent_now f
    → f ≢ fault.OutOfMemory
    → Browses (answers_at at x) (all_have at x) all any none p n told now before after was is spent (end.Items f)
commands_stop x at here p n told now before amid after was then is spent spent_now f g k s m =
    browses x at here p n told now before amid after was then is spent (end.Items f) g
    (refl, subst (λ xs. HasFault xs before after was spent f) (append-nil (map (λ (t : Turn). t.item) g.turns)) (takes_stop (map (λ (t : Turn). t.item) g.turns) [] (next.Items f) before amid after was then spent spent_now no_failure no_failure g.taken k (λ e. e) s), m)

-- ---- what stands before other turns

-- nothing is added to an item
abbrev pub unadded : Added
unadded = record { found = Nothing; edit = None; halt = None }

abbrev pub as_turn : Item → Turn
as_turn item = record { item = item; added = unadded }

-- an item of the opening, and then the rest of it
ends_behind : (stands over stands_rest over_rest : List Item → Bool) (item : Item) (xs : List Item) (before amid after : Option (List ℕ)) (was then is : List ℕ → Stream) (spent spent_now : Bool) (e : declared.End)
    → (stands_rest xs ≡ true → stands (item ∷ xs) ≡ true)
    → (over_rest xs ≡ true → over (item ∷ xs) ≡ true)
    → Takes (item ∷ []) before amid was then
    → (spent_now ≡ true → spent ≡ true)
    → EndsAt stands_rest over_rest xs amid after then is spent_now e
    → EndsAt stands over (item ∷ xs) before after was is spent e
ends_behind stands over stands_rest over_rest item xs before amid after was then is spent spent_now end.Input h k t s e = (h e.0, takes_end (item ∷ []) xs true before amid after was then t e.1)
ends_behind stands over stands_rest over_rest item xs before amid after was then is spent spent_now end.Opening h k t s e = (k e.0, takes_more (item ∷ []) xs before amid after was then is t e.1)
ends_behind stands over stands_rest over_rest item xs before amid after was then is spent spent_now (end.Items f) h k t s e = (h e.0, takes_stop (item ∷ []) xs (next.Items f) before amid after was then spent spent_now no_failure no_failure t s (λ e. e) e.1, e.2)

pub one_before : (spelled spelled_rest : List Turn → List ℕ) (Has HasRest : List Turn → Type 0) (asked asked_rest : List Turn → List Turn) (stands over stands_rest over_rest : List Item → Bool) (refused refused_now : ℕ) (told mid now : Option (List ℕ)) (before amid after : Option (List ℕ)) (was then is : List ℕ → Stream) (spent spent_now : Bool) (e : declared.End) (item : Item) (bytes : List ℕ)
    → ((ts : List Turn) → spelled (as_turn item ∷ ts) ≡ bytes ++ spelled_rest ts)
    → ((ts : List Turn) → HasRest ts → Has (as_turn item ∷ ts))
    → ((ts : List Turn) → asked (as_turn item ∷ ts) ≡ asked_rest ts)
    → ((xs : List Item) → stands_rest xs ≡ true → stands (item ∷ xs) ≡ true)
    → ((xs : List Item) → over_rest xs ≡ true → over (item ∷ xs) ≡ true)
    → Appends told mid bytes
    → Takes (item ∷ []) before amid was then
    → (spent_now ≡ true → spent ≡ true)
    → Browses spelled_rest HasRest asked_rest stands_rest over_rest refused refused_now mid now amid after then is spent_now e
    → Browses spelled Has asked stands over refused refused_now told now before after was is spent e
one_before spelled spelled_rest Has HasRest asked asked_rest stands over stands_rest over_rest refused refused_now told mid now before amid after was then is spent spent_now e item bytes s v q h k a t p r = record {
  turns = as_turn item ∷ r.turns;
  found = v r.turns r.found;
  counted = subst (λ ts. RoseBy (halts ts) refused refused_now) (sym (q r.turns)) r.counted;
  bytes = subst (Appends told now) (sym (s r.turns)) (Appends-trans told mid now bytes (spelled_rest r.turns) a r.bytes);
  ends = ends_behind stands over stands_rest over_rest item (map (λ (u : Turn). u.item) r.turns) before amid after was then is spent spent_now e (h (map (λ (u : Turn). u.item) r.turns)) (k (map (λ (u : Turn). u.item) r.turns)) t p r.ends;
}

-- ---- an opening that ends

pub ends_at_once : (spelled : List Turn → List ℕ) (Has : List Turn → Type 0) (asked : List Turn → List Turn) (stands over : List Item → Bool) (refused : ℕ) (told now : Option (List ℕ)) (before after : Option (List ℕ)) (was is : List ℕ → Stream) (spent : Bool) (e : declared.End) (ts : List Turn)
    → Has ts
    → asked ts ≡ []
    → Appends told now (spelled ts)
    → EndsAt stands over (map (λ t. t.item) ts) before after was is spent e
    → Browses spelled Has asked stands over refused refused told now before after was is spent e
ends_at_once spelled Has asked stands over refused told now before after was is spent e ts v q a k = record {
  turns = ts;
  found = v;
  counted = subst (λ l. RoseBy (halts l) refused refused) (sym q) (inl (omega arith));
  bytes = a;
  ends = k;
}
