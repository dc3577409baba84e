-- What came of the disks that folders lent, step by step.
use Rattle.std.proofs.Common.{◌≡◌, ◌≢◌, ◌≤◌, ℕ, List, [], ◌∷◌, refl, sym, ◌∙◌, ap, subst, arith}
use Rattle.fleet_disk.specs.declared.disk.Disk.{Ghosts}
use Rattle.fleet_disk.specs.Lending.{FolderDisk, Lent, There, IsGiven, OthersStay, AllStay}
use Rattle.fleet_main.specs.Loans.{AreBack, Each, IsLent, Loan, TakesBack, lent_by, only_of}
use Rattle.fleet_main.specs.declared.lending.Folders.{Ghosts as FolderGhosts}

module _ {F D : Type 0} (G : Ghosts D) (H : FolderGhosts F D) where
  -- where no disk is lent
  pub none_lent : (folders : F) → AreBack G H folders folders []
  none_lent folders = record {
    given = λ h. tt;
    back = λ h. tt;
    others = λ h other far. refl;
    honest = λ h. h;
    later = omega arith;
  }

  pub not_lent : (before now : F) → (H.honest before → AllStay (H.disk before) (H.disk now)) → (H.honest before → H.honest now) → H.failures before ≤ H.failures now → AreBack G H before now []
  not_lent before now same rules later = record {
    given = λ h. tt;
    back = λ h. tt;
    others = λ h other far. same h other;
    honest = rules;
    later = later;
  }

  -- a disk that is lent isn't given, so a folder that gives one is another
  other_folder : (disk : List ℕ → FolderDisk D) (folder : List ℕ) (l : Loan D) → disk folder ≡ Lent → IsGiven G (disk l.folder) l.given → l.folder ≢ folder
  other_folder disk folder l lent given same = subst (λ d. IsGiven G d l.given) (ap disk same ∙ lent) given

  others_far : (disk : List ℕ → FolderDisk D) (folder : List ℕ) (loans : List (Loan D)) → disk folder ≡ Lent → Each (λ l. IsGiven G (disk l.folder) l.given) loans → Each (λ l. folder ≢ l.folder) loans
  others_far disk folder [] lent given = tt
  others_far disk folder (l ∷ loans) lent (one, more) = ((λ same. other_folder disk folder l lent one (sym same)), others_far disk folder loans lent more)

  given_before : (before disk : List ℕ → FolderDisk D) (folder : List ℕ) (loans : List (Loan D)) → OthersStay folder before disk → disk folder ≡ Lent → Each (λ l. IsGiven G (disk l.folder) l.given) loans
      → Each (λ l. IsGiven G (before l.folder) l.given) loans
  given_before before disk folder [] stay lent given = tt
  given_before before disk folder (l ∷ loans) stay lent (one, more) =
      (subst (λ d. IsGiven G d l.given) (stay l.folder (other_folder disk folder l lent one)) one, given_before before disk folder loans stay lent more)

  back_then : (disk later : List ℕ → FolderDisk D) (folder : List ℕ) (loans : List (Loan D)) → OthersStay folder disk later → Each (λ l. folder ≢ l.folder) loans → Each (λ l. disk l.folder ≡ There l.back) loans
      → Each (λ l. later l.folder ≡ There l.back) loans
  back_then disk later folder [] stay far back = tt
  back_then disk later folder (l ∷ loans) stay (apart, far) (one, more) = (stay l.folder (λ same. apart (sym same)) ∙ one, back_then disk later folder loans stay far more)

  -- a disk that is lent first comes back last
  pub one_more_back : (first then before now : F) (folder : List ℕ) (given back : D) (loans : List (Loan D)) → IsLent G H first then folder given → AreBack G H then before loans → (H.honest first → G.honest back)
      → TakesBack G H before now folder back → AreBack G H first now (lent_by folder given back ∷ loans)
  one_more_back first then before now folder given back loans l a rules t = record {
    given = λ h. (l.given h, given_before (H.disk first) (H.disk then) folder loans (l.others h) (l.lent h) (a.given (l.honest h)));
    back = λ h. (t.back (honest h) (still h), back_then (H.disk before) (H.disk now) folder loans (t.others (honest h) (still h)) (far h) (a.back (l.honest h)));
    others = λ h other no. t.others (honest h) (still h) other no.0 ∙ a.others (l.honest h) other no.1 ∙ l.others h other no.0;
    honest = λ h. t.honest (honest h) (rules h);
    later = omega (arith, l.later, a.later, t.later);
  }
    where
      far : H.honest first → Each (λ l. folder ≢ l.folder) loans
      far h = others_far (H.disk then) folder loans (l.lent h) (a.given (l.honest h))

      honest : H.honest first → H.honest before
      honest h = a.honest (l.honest h)

      still : H.honest first → H.disk before folder ≡ Lent
      still h = a.others (l.honest h) folder (far h) ∙ l.lent h

  -- and alone
  pub one_back : (first then now : F) (folder : List ℕ) (given back : D) → IsLent G H first then folder given → (H.honest first → G.honest back) → TakesBack G H then now folder back
      → AreBack G H first now (only_of folder given back)
  one_back first then now folder given back l rules t = one_more_back first then then now folder given back [] l (none_lent then) rules t
