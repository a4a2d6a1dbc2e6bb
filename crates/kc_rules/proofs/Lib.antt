mod Apart
mod Every
pub mod RuleLaws
