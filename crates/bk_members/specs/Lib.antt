pub mod NextMember
