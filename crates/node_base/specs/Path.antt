-- Names and paths, and their order.
use Rattle.std.specs.Prelude.{ℕ, Bool, List, [], ◌∷◌, Option, Some, None, is_some, if◌then◌else◌}
use Rattle.std.specs.declared.cmp.Ordering.{Ordering}
use Rattle.std.specs.Ordering.{nat_cmp, eq_by_cmp}
use Rattle.std.specs.Cmp.{IsTotalOrder}
use Rattle.std.specs.Cmp.Lexicographic.{slice_cmp, lists_total, nat_list_cmp_total}
use Rattle.std.specs.FinMap.{IsAntisymmetric, slice_cmp-IsAntisymmetric, nat_cmp-IsAntisymmetric}
use Rattle.std.specs.Coded.{Coded, coded_list, coded_ℕ}

-- a name is its bytes
abbrev pub Name : Type 0
Name = List ℕ

-- a path is its names, and the empty path is the root
abbrev pub Path : Type 0
Path = List Name

-- names by their bytes
abbrev pub name_cmp : Name → Name → Ordering
name_cmp = slice_cmp nat_cmp

-- paths name by name
abbrev pub path_cmp : Path → Path → Ordering
path_cmp = slice_cmp name_cmp

pub names_total : IsTotalOrder name_cmp
names_total = nat_list_cmp_total

pub paths_total : IsTotalOrder path_cmp
paths_total = lists_total nat_list_cmp_total

pub names_exact : IsAntisymmetric name_cmp
names_exact = slice_cmp-IsAntisymmetric nat_cmp-IsAntisymmetric

pub paths_exact : IsAntisymmetric path_cmp
paths_exact = slice_cmp-IsAntisymmetric names_exact

-- whether two names are the same
abbrev pub same_name : Name → Name → Bool
same_name = eq_by_cmp name_cmp

-- whether two paths are the same
abbrev pub same_path : Path → Path → Bool
same_path = eq_by_cmp path_cmp

-- what follows p in q, where p is a front of q
abbrev pub rest_after : Path → Path → Option Path
rest_after [] q = Some q
rest_after (n ∷ p) [] = None
rest_after (n ∷ p) (m ∷ q) = if same_name n m then rest_after p q else None

-- whether p is a front of q, perhaps q itself
abbrev pub is_front : Path → Path → Bool
is_front p q = is_some (rest_after p q)

abbrev pub coded_name : Coded Name
coded_name = coded_list coded_ℕ

abbrev pub coded_path : Coded Path
coded_path = coded_list coded_name
