pub mod MemberPaths
