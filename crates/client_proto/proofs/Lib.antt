pub mod FieldLists
pub mod FormLemmas
pub mod Forms
pub mod NumberLemmas
pub mod ReplyLemmas
pub mod UrlLemmas
pub mod Visibles
