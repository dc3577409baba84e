-- The codes of changes, as a model's values need them.
use Rattle.std.specs.Prelude.{◌≡◌, ℕ, Bool, true, false, List, Option, refl}
use Rattle.std.specs.Coded.{Coded, coded×, coded_ℕ, coded_bool, coded_list, coded_option, code_by}
use Rattle.node_base.specs.Path.{Path, coded_path, coded_name}
use Rattle.node_base.specs.Props.{PropMap, coded_props}
use Rattle.node_base.specs.declared.node.Action.{Action}
use Rattle.node_base.specs.declared.node.Action.TheVariants.{Modify, Add, Delete, Replace}
use Rattle.node_base.specs.declared.node.NodeKind.{NodeKind}
use Rattle.node_base.specs.declared.node.NodeKind.TheVariants.{File, Dir}
use Rattle.node_base.specs.declared.node.Source.{Source}
use Rattle.dump_load.specs.declared.change.Change.{Change}

abbrev pub kind_bit : NodeKind → Bool
kind_bit File = true
kind_bit Dir = false

abbrev pub bit_kind : Bool → NodeKind
bit_kind true = File
bit_kind false = Dir

pub kind_back : (k : NodeKind) → bit_kind (kind_bit k) ≡ k
kind_back File = refl
kind_back Dir = refl

abbrev pub coded_kind : Coded NodeKind
coded_kind = code_by Bool coded_bool kind_bit bit_kind kind_back

abbrev pub action_bits : Action → Bool × Bool
action_bits Modify = (false, false)
action_bits Add = (false, true)
action_bits Delete = (true, false)
action_bits Replace = (true, true)

abbrev pub bits_action : Bool → Bool → Action
bits_action false false = Modify
bits_action false true = Add
bits_action true false = Delete
bits_action true true = Replace

pub action_back : (a : Action) → bits_action (action_bits a).0 (action_bits a).1 ≡ a
action_back Modify = refl
action_back Add = refl
action_back Delete = refl
action_back Replace = refl

abbrev pub coded_action : Coded Action
coded_action = code_by (Bool × Bool) (coded× coded_bool coded_bool) action_bits (λ p. bits_action p.0 p.1) action_back

abbrev pub coded_source : Coded Source
coded_source = code_by (Path × ℕ) (coded× coded_path coded_ℕ) (λ s. (s.path, s.revision)) (λ p. record { path = p.0; revision = p.1 }) (λ _. refl)

abbrev pub coded_change : Coded Change
coded_change =
    code_by (Path × (Action × (Option NodeKind × (Option Source × (Option PropMap × Option (List ℕ))))))
    (coded× coded_path (coded× coded_action (coded× (coded_option coded_kind) (coded× (coded_option coded_source) (coded× (coded_option coded_props) (coded_option coded_name))))))
    (λ c. (c.path, (c.action, (c.kind, (c.source, (c.props, c.text))))))
    (λ p. record { path = p.0; action = p.1.0; kind = p.1.1.0; source = p.1.1.1.0; props = p.1.1.1.1.0; text = p.1.1.1.1.1 })
    (λ _. refl)

abbrev pub coded_set : Coded (List Change)
coded_set = coded_list coded_change
