-- What is discarded after a refusal, the innermost first.
use Rattle.std.proofs.Common.{◌≡◌, List, [], ◌∷◌, ◌++◌, refl, sym, ap, subst, ◌∙◌, append_assoc, append-nil}
use Rattle.node_base.specs.Path.{Path}
use Rattle.delta_editor.specs.Calls.{LetsGo}
use Rattle.ra_edit.specs.Edit.{dir_paths}
use Rattle.ra_edit.specs.declared.receive_edit.OpenDir.{OpenDir}
use Rattle.ra_edit.proofs.LeftOpen.{innermost}

-- so many were, and these are left
pub record Discarding {D E : Type 0} (path : D → Path) (lets_go : E → List Path → Type 0) (start now : E) (all left : List (OpenDir D)) : Type 0 where
  pub done : List Path
  pub are : dir_paths path all ≡ done ++ dir_paths path left
  pub let_go : LetsGo lets_go start now done

pub none_discarded : {D E : Type 0} (path : D → Path) (lets_go : E → List Path → Type 0) (e : E) (all : List (OpenDir D)) → Discarding path lets_go e e all all
none_discarded path lets_go e all = record { done = []; are = refl; let_go = λ paths s. subst (lets_go e) (sym (append-nil paths)) s }

let_go_both : {E : Type 0} (lets_go : E → List Path → Type 0) (start mid now : E) (one other : List Path) → LetsGo lets_go start mid one → LetsGo lets_go mid now other → LetsGo lets_go start now (one ++ other)
let_go_both lets_go start mid now one other h k = λ paths s. subst (lets_go now) (append_assoc paths one other) (k (paths ++ one) (h paths s))

pub one_discarded : {D E : Type 0} (path : D → Path) (lets_go : E → List Path → Type 0) (start mid now : E) (all left rest : List (OpenDir D)) (d : OpenDir D) → left ≡ rest ++ d ∷ [] → LetsGo lets_go mid now (path d.baton ∷ []) → Discarding path lets_go start mid all left → Discarding path lets_go start now all rest
one_discarded path lets_go start mid now all left rest d e k g = record {
  done = g.done ++ path d.baton ∷ [];
  are = g.are ∙ ap (λ l. g.done ++ dir_paths path l) e ∙ ap (λ l. g.done ++ l) (innermost path rest d) ∙ sym (append_assoc g.done (path d.baton ∷ []) (dir_paths path rest));
  let_go = let_go_both lets_go start mid now g.done (path d.baton ∷ []) g.let_go k;
}

pub all_discarded : {D E : Type 0} (path : D → Path) (lets_go : E → List Path → Type 0) (start now : E) (all left : List (OpenDir D)) → left ≡ [] → Discarding path lets_go start now all left → LetsGo lets_go start now (dir_paths path all)
all_discarded path lets_go start now all left e g = subst (LetsGo lets_go start now) (sym (g.are ∙ ap (λ l. g.done ++ dir_paths path l) e ∙ append-nil g.done)) g.let_go

-- a file, and then the directories around it
pub file_first : {E : Type 0} (lets_go : E → List Path → Type 0) (start mid now : E) (file : Path) (dirs : List Path) → LetsGo lets_go start mid (file ∷ []) → LetsGo lets_go mid now dirs → LetsGo lets_go start now (file ∷ dirs)
file_first lets_go start mid now file dirs h k = let_go_both lets_go start mid now (file ∷ []) dirs h k
