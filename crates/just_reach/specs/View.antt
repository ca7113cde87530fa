-- Members as plain data.
use Rattle.std.specs.Prelude.{List, map}
use Rattle.just_syntax.specs.View.{name_view, token_view}
use Rattle.just_reach.specs.declared.member.Member as declared
use Rattle.just_reach.specs.declared.member.Member.TheVariants as members
use Rattle.just_reach.specs.Member.{PlainMember, BuiltIn, Call, Command, Unknown, Variable}

abbrev pub member_view : declared.Member → PlainMember
member_view (members.BuiltIn name function) = BuiltIn (name_view name) function
member_view (members.Call name) = Call (name_view name)
member_view (members.Command contents t) = Command (token_view t) contents.now
member_view (members.Unknown name) = Unknown (name_view name)
member_view (members.Variable name number) = Variable (name_view name) number

abbrev pub members_view : List declared.Member → List PlainMember
members_view ms = map member_view ms
