-- Where two repositories agree.
use Rattle.std.specs.Prelude.{◌≡◌, ◌<◌, ◌≤◌, ℕ, Bool, true, false}
use Rattle.std.specs.Option.{option_map}
use Rattle.repo_core.specs.Repository.{Repository, head_of}
use Rattle.store_share.specs.Row.{rev_at}

-- a repository's revisions up to a number are the other's: the same sets of changes and the same trees
pub record IsSameTo (x y : Repository) (last : ℕ) : Type 0 where
  pub within : last ≤ head_of y.revisions
  pub same : (n : ℕ) → n ≤ last → rev_at x n ≡ rev_at y n

-- all of them are
abbrev pub IsFront : Repository → Repository → Type 0
IsFront x y = IsSameTo x y (head_of x.revisions)

-- both have a revision of that number, with the same set of changes
pub record HaveSet (x y : Repository) (n : ℕ) : Type 0 where
  pub within : n ≤ head_of y.revisions
  pub same : option_map (λ v. v.set) (rev_at x n) ≡ option_map (λ v. v.set) (rev_at y n)

-- what a mirror has above a number it has of its master; where its revisions up to there are the master's, all are
pub record Adds (above : ℕ) (mirror master : Repository) : Type 0 where
  pub more : (n : ℕ) → above < n → n ≤ head_of mirror.revisions → HaveSet mirror master n
  pub whole : IsSameTo mirror master above → IsFront mirror master

-- of a revision above a number it hasn't
pub record IsOther (above : ℕ) (mirror master : Repository) : Type 0 where
  pub number : ℕ
  pub past : above < number
  pub there : number ≤ head_of mirror.revisions
  pub other : HaveSet mirror master number → ⊥

-- whether it has
abbrev pub IsAddedTo : Bool → ℕ → Repository → Repository → Type 0
IsAddedTo true above mirror master = Adds above mirror master
IsAddedTo false above mirror master = IsOther above mirror master

-- a mirror was brought up to a master, of which both were as the first two and are as the last two: each has what it had; what the
-- mirror has besides is the master's, and it has no fewer revisions than the master had; and where all that it had was the master's, all that it has is
pub record BringsUp (old_master old_mirror master mirror : Repository) : Type 0 where
  pub master_stays : IsFront old_master master
  pub mirror_stays : IsFront old_mirror mirror
  pub all : head_of old_master.revisions ≤ head_of mirror.revisions
  pub more : (n : ℕ) → head_of old_mirror.revisions < n → n ≤ head_of mirror.revisions → HaveSet mirror master n
  pub whole : IsFront old_mirror old_master → IsFront mirror master
