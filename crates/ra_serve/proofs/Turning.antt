-- The turns of a session, one after another.
use Rattle.std.proofs.Common.{◌≡◌, ◌≢◌, ◌≤◌, ◌+◌, ℕ, ◌⊎◌, inl, inr, Bool, true, List, [], ◌∷◌, ◌++◌, map, Option, Some, None, refl, sym, ap, subst, ◌∙◌, append_assoc, append-nil, arith}
use Rattle.std.proofs.KnownBytes.{Appends-nil, Appends-trans}
use Rattle.std.proofs.lemmas.List.{map-append}
use Rattle.std.specs.Io.KnownBytes.{Appends}
use Rattle.byte_streams.specs.Causes.{RoseBy}
use Rattle.fleet_disk.specs.Rules.{Rose}
use Rattle.ra_item.specs.Items.{Item}
use Rattle.ra_item.specs.Streams.{Stream}
use Rattle.ra_item.specs.ItemStreams.{Takes, Ends}
use Rattle.ra_item.proofs.Streaming.{takes_none, takes_more, takes_end, takes_stop}
use Rattle.ra_item.specs.declared.fault.ItemFault.{ItemFault}
use Rattle.ra_item.specs.declared.fault.ItemFault.TheVariants as fault
use Rattle.ra_item.specs.declared.fault.NextFault.TheVariants as next
use Rattle.repo_core.specs.Repository.{Repository}
use Rattle.ra_wire.specs.Reading.{command_in}
use Rattle.ra_serve.specs.Answers.{Halt, IsCalm, MayHaltAt, halts_in}
use Rattle.ra_serve.specs.Sessions.{Turn, turn_bytes, turn_after, answers, left, AllMayHalt, halts}
use Rattle.ra_serve.specs.Serving.{Serves, EndsAt, HasFault, no_failure, all, any, none}
use Rattle.ra_serve.specs.Tellings.{Answered}
use Rattle.ra_serve.specs.declared.fault.End as declared
use Rattle.ra_serve.specs.declared.fault.End.TheVariants as end

-- ---- one turn more

answers_more : (mirror : Bool) (x : Repository) (ts : List Turn) (t : Turn) → answers mirror x (ts ++ t ∷ []) ≡ answers mirror x ts ++ turn_bytes mirror (left mirror x ts) t
answers_more mirror x [] t = append-nil (turn_bytes mirror x t)
answers_more mirror x (s ∷ ts) t = ap (λ l. turn_bytes mirror x s ++ l) (answers_more mirror (turn_after mirror x s) ts t) ∙ sym (append_assoc (turn_bytes mirror x s) (answers mirror (turn_after mirror x s) ts) (turn_bytes mirror (left mirror (turn_after mirror x s) ts) t))

left_more : (mirror : Bool) (x : Repository) (ts : List Turn) (t : Turn) → left mirror x (ts ++ t ∷ []) ≡ turn_after mirror (left mirror x ts) t
left_more mirror x [] t = refl
left_more mirror x (s ∷ ts) t = left_more mirror (turn_after mirror x s) ts t

may_more : (mirror : Bool) (x : Repository) (ts : List Turn) (t : Turn) → AllMayHalt mirror x ts → MayHaltAt mirror (left mirror x ts) (command_in t.item) t.halt → AllMayHalt mirror x (ts ++ t ∷ [])
may_more mirror x [] t h m = (m, tt)
may_more mirror x (s ∷ ts) t h m = (h.0, may_more mirror (turn_after mirror x s) ts t h.1 m)

halts_more : (ts : List Turn) (t : Turn) → halts (ts ++ t ∷ []) ≡ halts ts + halts_in t.halt
halts_more [] t = omega arith
halts_more (s ∷ ts) t = let e = halts_more ts t in omega (arith, e)

rose_more : (k p m n : ℕ) (o : Option Halt) → m ≤ n → RoseBy k p m → IsCalm o ⊎ Rose m n → RoseBy (k + halts_in o) p n
rose_more k p m n o h (inr r) c = inr (omega (arith, h, r))
rose_more k p m n None h (inl r) c = inl (omega (arith, h, r))
rose_more k p m n (Some x) h (inl r) (inl c) = absurd c
rose_more k p m n (Some x) h (inl r) (inr (inl s)) = inl (omega (arith, r, s))
rose_more k p m n (Some x) h (inl r) (inr (inr s)) = inr s

counted_more : (ts : List Turn) (t : Turn) (p m n : ℕ) → m ≤ n → RoseBy (halts ts) p m → IsCalm t.halt ⊎ Rose m n → RoseBy (halts (ts ++ t ∷ [])) p n
counted_more ts t p m n k r c = subst (λ j. RoseBy j p n) (sym (halts_more ts t)) (rose_more (halts ts) p m n t.halt k r c)

-- commands so far: these turns were taken and answered
pub record Going (mirror : Bool) (x : Repository) (p n : ℕ) (told now : Option (List ℕ)) (new : Option Repository) (before after : Option (List ℕ)) (was is : List ℕ → Stream) : Type 0 where
  pub turns : List Turn
  pub lawful : AllMayHalt mirror x turns
  pub counted : RoseBy (halts turns) p n
  pub bytes : Appends told now (answers mirror x turns)
  pub repository : new ≡ Some (left mirror x turns)
  pub taken : Takes (map (λ t. t.item) turns) before after was is

pub going_start : (mirror : Bool) (x : Repository) (p : ℕ) (told : Option (List ℕ)) (new : Option Repository) (before : Option (List ℕ)) (was : List ℕ → Stream) → new ≡ Some x → Going mirror x p p told told new before before was was
going_start mirror x p told new before was e = record {
  turns = [];
  lawful = tt;
  counted = inl (omega arith);
  bytes = Appends-nil told;
  repository = e;
  taken = takes_none before was;
}

pub going_more : (mirror : Bool) (x : Repository) (p m n : ℕ) (told mid now : Option (List ℕ)) (between new : Option Repository) (before amid after : Option (List ℕ)) (was then is : List ℕ → Stream) (item : Item)
    → m ≤ n
    → Going mirror x p m told mid between before amid was then
    → Takes (item ∷ []) amid after then is
    → ((y : Repository) → between ≡ Some y → Answered mirror y (command_in item) (Rose m n) mid now new)
    → Going mirror x p n told now new before after was is
going_more mirror x p m n told mid now between new before amid after was then is item k g taken answered =
    let a = answered (left mirror x g.turns) g.repository in
    let t : Turn = record { item = item; halt = a.halt } in
    record {
      turns = g.turns ++ t ∷ [];
      lawful = may_more mirror x g.turns t g.lawful a.lawful;
      counted = counted_more g.turns t p m n k g.counted a.counted;
      bytes = subst (Appends told now) (sym (answers_more mirror x g.turns t)) (Appends-trans told mid now (answers mirror x g.turns) (turn_bytes mirror (left mirror x g.turns) t) g.bytes a.bytes);
      repository = a.repository ∙ ap Some (sym (left_more mirror x g.turns t));
      taken = subst (λ xs. Takes xs before after was is) (sym (map-append (λ (u : Turn). u.item) g.turns (t ∷ []))) (takes_more (map (λ (u : Turn). u.item) g.turns) (item ∷ []) before amid after was then is g.taken taken);
    }

-- ---- the end of the commands

serves : (mirror : Bool) (x : Repository) (p n : ℕ) (told now : Option (List ℕ)) (new : Option Repository) (before amid after : Option (List ℕ)) (was then is : List ℕ → Stream) (spent : Bool) (e : declared.End)
    → (g : Going mirror x p n told now new before amid was then)
    → EndsAt any none (map (λ t. t.item) g.turns) before after was is spent e
    → Serves (answers mirror) all any none mirror x p n told now new before after was is spent e
serves mirror x p n told now new before amid after was then is spent e g ends = record {
  turns = g.turns;
  lawful = g.lawful;
  counted = g.counted;
  bytes = g.bytes;
  repository = g.repository;
  ends = ends;
}

pub commands_end : (mirror : Bool) (x : Repository) (p n : ℕ) (told now : Option (List ℕ)) (new : Option Repository) (before amid after : Option (List ℕ)) (was then is : List ℕ → Stream) (spent : Bool)
    → Going mirror x p n told now new before amid was then
    → Ends [] true amid after then
    → Serves (answers mirror) all any none mirror x p n told now new before after was is spent end.Input
commands_end mirror x p n told now new before amid after was then is spent g e =
    serves mirror x p n told now new before amid after was then is spent end.Input g
    (refl, subst (λ xs. Ends xs true before after was) (append-nil (map (λ (t : Turn). t.item) g.turns)) (takes_end (map (λ (t : Turn). t.item) g.turns) [] true before amid after was then g.taken e))

pub commands_stop : (mirror : Bool) (x : Repository) (p n : ℕ) (told now : Option (List ℕ)) (new : Option Repository) (before amid after : Option (List ℕ)) (was then is : List ℕ → Stream) (spent spent_now : Bool) (f : ItemFault)
    → Going mirror x p n told now new before amid was then
    → (spent_now ≡ true → spent ≡ true)
    → HasFault [] amid after then spent_now f
    → f ≢ fault.OutOfMemory
    → Serves (answers mirror) all any none mirror x p n told now new before after was is spent (end.Items f)
commands_stop mirror x p n told now new before amid after was then is spent spent_now f g k s m =
    serves mirror x p n told now new before amid after was then is spent (end.Items f) g
    (refl, subst (λ xs. HasFault xs before after was spent f) (append-nil (map (λ (t : Turn). t.item) g.turns)) (takes_stop (map (λ (t : Turn). t.item) g.turns) [] (next.Items f) before amid after was then spent spent_now no_failure no_failure g.taken k (λ e. e) s), m)

-- ---- what stands before other turns

abbrev pub as_turn : Item → Turn
as_turn item = record { item = item; halt = None }

-- an item of the opening, and then the rest of it
ends_behind : (stands over stands_rest over_rest : List Item → Bool) (item : Item) (xs : List Item) (before amid after : Option (List ℕ)) (was then is : List ℕ → Stream) (spent spent_now : Bool) (e : declared.End)
    → (stands_rest xs ≡ true → stands (item ∷ xs) ≡ true)
    → (over_rest xs ≡ true → over (item ∷ xs) ≡ true)
    → Takes (item ∷ []) before amid was then
    → (spent_now ≡ true → spent ≡ true)
    → EndsAt stands_rest over_rest xs amid after then is spent_now e
    → EndsAt stands over (item ∷ xs) before after was is spent e
ends_behind stands over stands_rest over_rest item xs before amid after was then is spent spent_now end.Input h k t s e = (h e.0, takes_end (item ∷ []) xs true before amid after was then t e.1)
ends_behind stands over stands_rest over_rest item xs before amid after was then is spent spent_now end.Opening h k t s e = (k e.0, takes_more (item ∷ []) xs before amid after was then is t e.1)
ends_behind stands over stands_rest over_rest item xs before amid after was then is spent spent_now (end.Items f) h k t s e = (h e.0, takes_stop (item ∷ []) xs (next.Items f) before amid after was then spent spent_now no_failure no_failure t s (λ e. e) e.1, e.2)

pub one_before : (spelled spelled_rest : Repository → List Turn → List ℕ) (asked asked_rest : List Turn → List Turn) (stands over stands_rest over_rest : List Item → Bool) (mirror : Bool) (x : Repository) (refused refused_now : ℕ) (told mid now : Option (List ℕ)) (new : Option Repository) (before amid after : Option (List ℕ)) (was then is : List ℕ → Stream) (spent spent_now : Bool) (e : declared.End) (item : Item) (bytes : List ℕ)
    → ((ts : List Turn) → spelled x (as_turn item ∷ ts) ≡ bytes ++ spelled_rest x ts)
    → ((ts : List Turn) → asked (as_turn item ∷ ts) ≡ asked_rest ts)
    → ((xs : List Item) → stands_rest xs ≡ true → stands (item ∷ xs) ≡ true)
    → ((xs : List Item) → over_rest xs ≡ true → over (item ∷ xs) ≡ true)
    → Appends told mid bytes
    → Takes (item ∷ []) before amid was then
    → (spent_now ≡ true → spent ≡ true)
    → Serves spelled_rest asked_rest stands_rest over_rest mirror x refused refused_now mid now new amid after then is spent_now e
    → Serves spelled asked stands over mirror x refused refused_now told now new before after was is spent e
one_before spelled spelled_rest asked asked_rest stands over stands_rest over_rest mirror x refused refused_now told mid now new before amid after was then is spent spent_now e item bytes s q h k a t p r = record {
  turns = as_turn item ∷ r.turns;
  lawful = subst (AllMayHalt mirror x) (sym (q r.turns)) r.lawful;
  counted = subst (λ ts. RoseBy (halts ts) refused refused_now) (sym (q r.turns)) r.counted;
  bytes = subst (Appends told now) (sym (s r.turns)) (Appends-trans told mid now bytes (spelled_rest x r.turns) a r.bytes);
  repository = r.repository ∙ ap (λ ts. Some (left mirror x ts)) (sym (q r.turns));
  ends = ends_behind stands over stands_rest over_rest item (map (λ (u : Turn). u.item) r.turns) before amid after was then is spent spent_now e (h (map (λ (u : Turn). u.item) r.turns)) (k (map (λ (u : Turn). u.item) r.turns)) t p r.ends;
}

-- ---- an opening that ends

pub ends_at_once : (spelled : Repository → List Turn → List ℕ) (asked : List Turn → List Turn) (stands over : List Item → Bool) (mirror : Bool) (x : Repository) (refused : ℕ) (told now : Option (List ℕ)) (new : Option Repository) (before after : Option (List ℕ)) (was is : List ℕ → Stream) (spent : Bool) (e : declared.End) (ts : List Turn)
    → asked ts ≡ []
    → Appends told now (spelled x ts)
    → new ≡ Some x
    → EndsAt stands over (map (λ t. t.item) ts) before after was is spent e
    → Serves spelled asked stands over mirror x refused refused told now new before after was is spent e
ends_at_once spelled asked stands over mirror x refused told now new before after was is spent e ts q a r k = record {
  turns = ts;
  lawful = subst (AllMayHalt mirror x) (sym q) tt;
  counted = subst (λ l. RoseBy (halts l) refused refused) (sym q) (inl (omega arith));
  bytes = a;
  repository = r ∙ ap (λ l. Some (left mirror x l)) (sym q);
  ends = k;
}
