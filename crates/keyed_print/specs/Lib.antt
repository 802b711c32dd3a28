pub mod KeyedText
