pub mod FormRules
pub mod Forms
