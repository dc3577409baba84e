-- What stands behind the items that are ready.
use Rattle.std.specs.Prelude.{Bool, true, false}
use Rattle.ra_item.specs.declared.fault.ItemFault.{ItemFault}
use Rattle.ra_item.specs.declared.fault.ItemFault.TheVariants as item
use Rattle.ra_item.specs.declared.stream.Rest.{Rest}
use Rattle.ra_item.specs.declared.stream.Rest.TheVariants as rest

-- more may be read
abbrev pub is_open : Rest → Bool
is_open rest.Open = true
is_open (rest.Refused f) = false
is_open rest.Spent = false

-- a refusal that a byte shows
abbrev pub is_of_byte : ItemFault → Bool
is_of_byte item.TooLong = true
is_of_byte item.BadItem = true
is_of_byte item.TooDeep = true
is_of_byte item.Truncated = false
is_of_byte item.Failed = false
is_of_byte item.OutOfMemory = false

-- what is kept of a refusal is one that a byte shows
abbrev pub is_sound : Rest → Bool
is_sound rest.Open = true
is_sound (rest.Refused f) = is_of_byte f
is_sound rest.Spent = true

-- nothing comes any more
abbrev pub is_over : Rest → Bool
is_over rest.Open = false
is_over (rest.Refused f) = false
is_over rest.Spent = true
