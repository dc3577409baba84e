-- Laws of sessions.
use Rattle.std.proofs.Common.{◌≡◌, ◌≤◌, ◌<◌, ◌+◌, Bool, true, false, List, [], ◌∷◌, ◌++◌, length, Ok, Err, refl, sym, ap, ◌∙◌, append_assoc, append-nil, length-append, arith}
use Rattle.std.specs.Prelude.{if◌then◌else◌}
use Rattle.ra_item.specs.Items.{Item, spell}
use Rattle.repo_core.specs.Repository.{Repository}
use Rattle.ra_wire.specs.Replies.{authorised}
use Rattle.browse_wire.specs.Asks.{Ask}
use Rattle.browse_wire.specs.AskReading.{Reading, ask_in}
use Rattle.browse_wire.specs.Reports.{Report, report_in}
use Rattle.browse_wire.specs.Urls.{Url}
use Rattle.ra_denial.specs.Denials.{unless_denied}
use Rattle.ra_browse.specs.Answers.{answer, behind}
use Rattle.ra_browse.proofs.Laws.{others_stay, root_behind}
use Rattle.ra_report.specs.Edits.{finished}
use Rattle.ra_report.specs.Orders.{awaits_report, order_denied}
use Rattle.ra_reader.specs.Standings.{Phase, Idle, Reporting, Spoilt, Edited, Standing, Added, standing_at, ready_at, ordered, command_told, behind_command, AtEnd, said_in, report_told, behind_report, leads_to}
use Rattle.ra_reader.specs.Sessions.{Turn, stands_behind, answers, stands}
use Rattle.ra_reader.proofs.Exits.{more_led}
use Rattle.ra_reader.specs.Laws.{IsSingle, AreSingle, single_answers, Say, IsElse}

-- ---- where no report is made

single_told : (x : Repository) (at : Url) (read : Reading) (a : Added) → IsSingle read → command_told x at read a ≡ answer x at read a.found a.halt
single_told x at (Ok c) a h = ap (λ b. if b then unless_denied (order_denied at c) (spell authorised) else answer x at (Ok c) a.found a.halt) h
single_told x at (Err f) a h = refl

single_led : (at : Url) (read : Reading) → IsSingle read → behind_command at read ≡ ready_at (behind at read)
single_led at (Ok c) h = ap (λ b. if b then standing_at at (ordered c (order_denied at c)) else ready_at (behind at (Ok c))) h
single_led at (Err f) h = refl

pub singles : (x : Repository) (at : Url) (ts : List Turn) → AreSingle ts → answers x (ready_at at) ts ≡ single_answers x at ts
singles x at [] h = refl
singles x at (t ∷ ts) h =
    ap (λ b. b ++ answers x (behind_command at (ask_in t.item)) ts) (single_told x at (ask_in t.item) t.added h.0)
    ∙ ap (λ s. answer x at (ask_in t.item) t.added.found t.added.halt ++ answers x s ts) (single_led at (ask_in t.item) h.0)
    ∙ ap (λ b. answer x at (ask_in t.item) t.added.found t.added.halt ++ b) (singles x (behind at (ask_in t.item)) ts h.1)

-- ---- reports

one_longer : (rs : List Report) (r : Report) → length (rs ++ r ∷ []) ≡ length rs + 1
one_longer rs r = length-append rs (r ∷ [])

pub whole : (x : Repository) (at : Url) (c : Ask) (ts : List Turn) (had rs : List Report) (t : Turn) → Say ts rs → length had + length rs ≤ 65536 → said_in (report_in t.item) ≡ AtEnd
    → answers x (standing_at at (Reporting c had)) (ts ++ t ∷ []) ≡ finished x at c (had ++ rs) t.added.edit t.added.halt
whole x at c [] had [] t h k e =
    append-nil (report_told x at c had (said_in (report_in t.item)) t.added)
    ∙ ap (λ s. report_told x at c had s t.added) e
    ∙ ap (λ rs. finished x at c rs t.added.edit t.added.halt) (sym (append-nil had))
whole x at c (u ∷ ts) had (r ∷ rs) t h k e =
    let l : length had < 65536 = omega (arith, k) in
    let g = one_longer had r in
    ap (λ s. report_told x at c had s u.added ++ answers x (standing_at at (behind_report c had s u.added)) (ts ++ t ∷ [])) h.0
    ∙ ap (λ p. answers x (standing_at at p) (ts ++ t ∷ [])) (more_led c had r l)
    ∙ whole x at c ts (had ++ r ∷ []) rs t h.1 (omega (arith, k, g)) e
    ∙ ap (λ rs. finished x at c rs t.added.edit t.added.halt) (append_assoc had (r ∷ []) rs)
whole x at c [] had (r ∷ rs) t h k e = absurd h
whole x at c (u ∷ ts) had [] t h k e = absurd h

-- ---- where a session stands

either_at : (at u : Url) (p : Phase) (b : Bool) → u ≡ at → (if b then standing_at at p else ready_at u).at ≡ at
either_at at u p true h = refl
either_at at u p false h = h

command_led : (at : Url) (read : Reading) → IsElse read → (behind_command at read).at ≡ at
command_led at (Ok c) h = either_at at (behind at (Ok c)) (ordered c (order_denied at c)) (awaits_report c) (others_stay at c h)
command_led at (Err f) h = refl

pub stays : (at : Url) (p : Phase) (item : Item) (a : Added) → IsElse (ask_in item) → (leads_to at p item a).at ≡ at
stays at Idle item a h = command_led at (ask_in item) h
stays at (Reporting c rs) item a h = refl
stays at (Spoilt d) item a h = refl
stays at Edited item a h = refl

either_root : (at u : Url) (p : Phase) (b : Bool) → u.0 ≡ at.0 → (if b then standing_at at p else ready_at u).at.0 ≡ at.0
either_root at u p true h = refl
either_root at u p false h = h

root_commanded : (at : Url) (read : Reading) → (behind_command at read).at.0 ≡ at.0
root_commanded at (Ok c) = either_root at (behind at (Ok c)) (ordered c (order_denied at c)) (awaits_report c) (root_behind at (Ok c))
root_commanded at (Err f) = refl

root_led : (at : Url) (p : Phase) (item : Item) (a : Added) → (leads_to at p item a).at.0 ≡ at.0
root_led at Idle item a = root_commanded at (ask_in item)
root_led at (Reporting c rs) item a = refl
root_led at (Spoilt d) item a = refl
root_led at Edited item a = refl

pub one_root : (s : Standing) (ts : List Turn) → (stands s ts).at.0 ≡ s.at.0
one_root s [] = refl
one_root s (t ∷ ts) = one_root (stands_behind s t) ts ∙ root_led s.at s.phase t.item t.added
